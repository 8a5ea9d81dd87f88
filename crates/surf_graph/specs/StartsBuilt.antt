-- What builds the starting copy of a statement, and of which statements so far.
use Rattle.std.specs.Prelude.{◌≡◌, ℕ, ◌+◌, ◌^◌, ◌<◌, ◌≤◌, nat_lt, Bool, true, false, ◌&&◌, List, [], ◌∷◌, ◌++◌}
use Rattle.kernel_terms.specs.declared.tables.Tables.{Tables}
use Rattle.kernel_terms.specs.Statements.{Stmt, Nothing, Pause, Emit, Assign, If, Present, Seq, Loop, Par, Trap, Exit, Abort, Suspend, Local, Send, Receive, SendWaits, Sent, ReceiveWaits, Received}
use Rattle.kernel_terms.specs.MayEnd.{ends0}
use Rattle.kernel_rules.specs.definitions.Registers.{registers}
use Rattle.surf_graph.specs.declared.builder.Builder.{Builder}
use Rattle.surf_graph.specs.declared.copy_builder.CopyBuilder.{CopyBuilder}
use Rattle.surf_graph.specs.declared.copy_builder.Given.{Given}
use Rattle.surf_graph.specs.declared.copy_builder.Made.{Made}
use Rattle.surf_graph.specs.declared.copy_builder.Turn.{Turn}
use Rattle.surf_graph.specs.Copying.{SpellsOut, context, Builds}
use Rattle.surf_graph.specs.definitions.Copies.{Copy, part_context, turn_own}
use Rattle.surf_graph.specs.definitions.Formulas.{Greater, Equation}
use Rattle.surf_graph.specs.definitions.StartingCopies.{writes0, start}

-- The statement has forms alone whose copies are built so far, and it assigns variables and emits signals below
-- these numbers.
abbrev pub is_built : ℕ → ℕ → Stmt → Bool
is_built variables signals Nothing = true
is_built variables signals Pause = true
is_built variables signals (Emit s e) = nat_lt s signals
is_built variables signals (Assign x e) = nat_lt x variables
is_built variables signals (If e p q) = false
is_built variables signals (Present t p q) = false
is_built variables signals (Seq p q) = is_built variables signals p && is_built variables signals q
is_built variables signals (Loop p) = is_built variables signals p
is_built variables signals (Par p q) = false
is_built variables signals (Trap p) = false
is_built variables signals (Exit d) = false
is_built variables signals (Abort weak armed t p) = false
is_built variables signals (Suspend armed t p) = false
is_built variables signals (Local s v p) = false
is_built variables signals (Send c e) = true
is_built variables signals (Receive c) = true
is_built variables signals (SendWaits c v) = false
is_built variables signals (Sent c) = false
is_built variables signals (ReceiveWaits c) = false
is_built variables signals (Received c) = false

-- so many own wires are taken, the first of which is n, and have these equations
pub record Owns (old new : Builder) (count : ℕ) (es : List Equation) (n : ℕ) : Type 0 where
  pub first : n ≡ old.next
  pub next : new.next ≡ old.next + count
  pub below : new.next ≤ 2 ^ 31
  pub equations : SpellsOut old new es

-- it is built, and this is its status, whether it is live, whether the statement may end, and then the first
-- register behind its own
pub record Starts (tables : Tables) (old new : CopyBuilder) (given : Given) (p : Stmt) (made : Made) :
    Type 0 where
  pub built : Builds old new given.register (registers tables p) (writes0 p)
      (start tables p (context old given))
  pub status : made.status ≡ (start tables p (context old given)).status
  pub live : made.live ≡ (start tables p (context old given)).live
  pub ends : made.ends ≡ ends0 p
  pub register : made.ends ≡ true → made.register ≡ given.register + registers tables p

-- Sequences whose first parts are started, from the outermost on: their own wires and the statuses of these parts.
-- The wire of the status of all, by that of the last part.
abbrev pub status_of_turns : List Turn → ℕ → ℕ
status_of_turns [] last = last
status_of_turns (t ∷ ts) last = t.own

-- each has the greater status of its first part and of the sequence in it
abbrev pub closing : List Turn → ℕ → List Equation
closing [] last = []
closing (t ∷ ts) last =
    record { wire = t.own; formula = Greater t.status (status_of_turns ts last) } ∷ closing ts last

-- they are closed, and this is the wire of their status
pub record Closes (old new : Builder) (turns : List Turn) (last all : ℕ) : Type 0 where
  pub equations : SpellsOut old new (closing turns last)
  pub next : new.next ≡ old.next
  pub status : all ≡ status_of_turns turns last

-- a copy, and whether it has ended by a wire
abbrev pub turned : ℕ → Copy → Copy
turned k a = record a { equations = turn_own k a ++ a.equations }

-- The first part of a sequence is built behind the own wires of this, of which the first is `own`.
pub record Opens (tables : Tables) (old new : CopyBuilder) (given : Given) (p : Stmt) (own : ℕ)
    (made : Made) : Type 0 where
  pub first : own ≡ old.builder.next
  pub below : own + 2 < 2 ^ 32
  pub built : Builds old new given.register (registers tables p) (writes0 p)
      (turned (own + 2) (start tables p (part_context given.go 3 (context old given))))
  pub status : made.status ≡ (start tables p (part_context given.go 3 (context old given))).status
  pub ends : made.ends ≡ ends0 p
  pub register : made.ends ≡ true → made.register ≡ given.register + registers tables p
