-- What builds the resuming copy of a statement.
use Rattle.std.specs.Prelude.{◌≡◌, ℕ, ◌+◌, Bool, cond, List, [], ◌∷◌}
use Rattle.kernel_terms.specs.declared.tables.Tables.{Tables}
use Rattle.kernel_terms.specs.Statements.{Stmt}
use Rattle.kernel_terms.specs.MayEnd.{ends1}
use Rattle.kernel_rules.specs.definitions.Registers.{registers}
use Rattle.kernel_rules.specs.definitions.TickRule.{ended_code, paused_code}
use Rattle.surf_graph.specs.declared.builder.Builder.{Builder}
use Rattle.surf_graph.specs.declared.copy_builder.CopyBuilder.{CopyBuilder}
use Rattle.surf_graph.specs.declared.copy_builder.Given.{Given}
use Rattle.surf_graph.specs.declared.copy_builder.Made.{Made}
use Rattle.surf_graph.specs.Copying.{context, Builds}
use Rattle.surf_graph.specs.definitions.Copies.{starting_if}
use Rattle.surf_graph.specs.definitions.Formulas.{Get, And, AndNot, Status, Greater, Equation}
use Rattle.surf_graph.specs.definitions.StartingCopies.{writes0, start}
use Rattle.depth_graph.specs.definitions.ResumingCopies.{writes1, resume}

-- the equations of a pause, whose own wires begin with n
abbrev pub pause_own : Given → ℕ → List Equation
pause_own given n =
    record { wire = n; formula = Get given.register }
    ∷ record { wire = n + 1; formula = And given.go n }
    ∷ record { wire = n + 2; formula = Status (n + 1) ended_code }
    ∷ record { wire = n + 3; formula = And given.hold given.keep }
    ∷ []

-- those of a send or a receive
abbrev pub waiting_own : Given → ℕ → List Equation
waiting_own given n =
    record { wire = n; formula = Get given.register }
    ∷ record { wire = n + 1; formula = Get (given.register + 1) }
    ∷ record { wire = n + 2; formula = Get (given.register + 2) }
    ∷ record { wire = n + 3; formula = And given.go n }
    ∷ record { wire = n + 4; formula = AndNot (n + 3) (n + 1) }
    ∷ record { wire = n + 5; formula = Status (n + 3) ended_code }
    ∷ record { wire = n + 6; formula = Status (n + 4) paused_code }
    ∷ record { wire = n + 7; formula = Greater (n + 5) (n + 6) }
    ∷ record { wire = n + 8; formula = And given.hold given.keep }
    ∷ record { wire = n + 9; formula = And (n + 4) given.keep }
    ∷ []

-- it is built, and this is its status, whether it is live, whether the statement may end when it resumes, and
-- the first register behind its own
pub record Resumes (tables : Tables) (old new : CopyBuilder) (given : Given) (p : Stmt)
    (made : Made) : Type 0 where
  pub built : Builds old new given.register (registers tables p) (writes1 p)
      (resume tables p (context old given))
  pub status : made.status ≡ (resume tables p (context old given)).status
  pub live : made.live ≡ (resume tables p (context old given)).live
  pub ends : made.ends ≡ ends1 p
  pub register : made.register ≡ given.register + registers tables p

-- a starting copy is built behind where its statement may start, and else nothing; this is its status
pub record StartsIf (tables : Tables) (old new : CopyBuilder) (given : Given) (p : Stmt) (may : Bool)
    (status_is : ℕ) : Type 0 where
  pub built : Builds old new given.register (registers tables p) (cond may (writes0 p) [])
      (starting_if may (start tables p (context old given)) (context old given))
  pub status :
      status_is ≡ (starting_if may (start tables p (context old given)) (context old given)).status

-- so many own wires are taken, of which n is the first
pub record Takes (old taken : Builder) (count n : ℕ) : Type 0 where
  pub first : n ≡ old.next
  pub next : taken.next ≡ old.next + count
  pub equations : taken.equations ≡ old.equations
  pub further : taken.further ≡ old.further

-- the builder with these operations
abbrev pub with_builder : CopyBuilder → Builder → CopyBuilder
with_builder b operations = record b { builder = operations }
