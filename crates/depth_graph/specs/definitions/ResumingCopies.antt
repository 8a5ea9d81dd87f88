-- The copy of a resuming tick.
use Rattle.std.specs.Prelude.{ℕ, ◌+◌, ◌==◌, pos, true, false, cond, List, [], ◌∷◌, ◌++◌, Option, Some, None}
use Rattle.java_values.specs.declared.kind.Kind.{Kind}
use Rattle.kernel_terms.specs.declared.tables.Tables.{Tables}
use Rattle.kernel_terms.specs.TableEntries.{signal_at}
use Rattle.kernel_terms.specs.Statements.{Stmt, Nothing, Pause, Emit, Assign, If, Present, Seq, Loop, Par, Trap, Exit, Abort, Suspend, Local, Send, Receive, SendWaits, Sent, ReceiveWaits, Received}
use Rattle.kernel_terms.specs.MayEnd.{ends1}
use Rattle.kernel_rules.specs.definitions.Registers.{registers}
use Rattle.surf_graph.specs.definitions.Formulas.{Formula, Const, Get, And, AndNot, Status, Greater}
use Rattle.surf_graph.specs.definitions.Copies.{Context, Copy, below, from, nothing_built, behind, alternatives, local_context, local_copy, branch_context, second_branch, beside, of_trap_copy, weak_context, weak_copy, tested_context, tested_copy, starting_if, other_context, start_context, part_context, live_own, turn_own}
use Rattle.surf_graph.specs.definitions.StartingCopies.{writes0, start}
use Rattle.kernel_rules.specs.definitions.TickRule.{ended_code, paused_code}

-- and those that a resuming copy may assign
abbrev pub writes1 : Stmt → List ℕ
writes1 Nothing = []
writes1 Pause = []
writes1 (Emit s e) = []
writes1 (Assign y e) = []
writes1 (If e p q) = writes1 p ++ writes1 q
writes1 (Present t p q) = writes1 p ++ writes1 q
writes1 (Seq p q) = (writes1 p ++ cond (ends1 p) (writes0 q) []) ++ writes1 q
writes1 (Loop p) = writes1 p ++ cond (ends1 p) (writes0 p) []
writes1 (Par p q) = writes1 p ++ writes1 q
writes1 (Trap p) = writes1 p
writes1 (Exit d) = []
writes1 (Abort weak armed t p) = writes1 p
writes1 (Suspend armed t p) = writes1 p
writes1 (Local s v p) = writes1 p
writes1 (Send c e) = []
writes1 (Receive c) = []
writes1 (SendWaits c v) = []
writes1 (Sent c) = []
writes1 (ReceiveWaits c) = []
writes1 (Received c) = []

-- of a resuming copy and a starting one behind it
abbrev pub writes_behind : Stmt → Stmt → List ℕ
writes_behind p q = writes1 p ++ cond (ends1 p) (writes0 q) []

abbrev pub held_context : Context → Context
held_context c = record c { go = c.next + 1; hold = c.next + 5; next = c.next + 7 }

-- a send or receive that waits
abbrev pub waiting_copy : Context → Copy
waiting_copy c =
    let n = c.next in
    let r = c.register in
    record {
      equations =
          record { wire = n; formula = Get r }
          ∷ record { wire = n + 1; formula = Get (r + 1) }
          ∷ record { wire = n + 2; formula = Get (r + 2) }
          ∷ record { wire = n + 3; formula = And c.go n }
          ∷ record { wire = n + 4; formula = AndNot (n + 3) (n + 1) }
          ∷ record { wire = n + 5; formula = Status (n + 3) ended_code }
          ∷ record { wire = n + 6; formula = Status (n + 4) paused_code }
          ∷ record { wire = n + 7; formula = Greater (n + 5) (n + 6) }
          ∷ record { wire = n + 8; formula = And c.hold c.keep }
          ∷ record { wire = n + 9; formula = And (n + 4) c.keep }
          ∷ [];
      status = n + 7;
      live = n;
      emits = [];
      variables = c.wires.variables;
      sets =
          λ k. cond (k == r) (record { condition = n + 8; value = n } ∷
          record { condition = n + 9; value = n + 9 } ∷ [])
          (cond (k == r + 1) (record { condition = n + 8; value = n + 1 } ∷
          []) (record { condition = n + 8; value = n + 2 } ∷
          record { condition = n + 9; value = n + 2 } ∷ []));
      next = n + 10;
    }

-- the formula of a local signal's last value
abbrev pub last_formula : Option Kind → ℕ → Formula
last_formula None r = Const (pos 0)
last_formula (Some k) r = Get r

-- The resuming copy, of a part that is live or isn't. It ticks where it is live and `go` is on.
abbrev pub resume : Tables → Stmt → Context → Copy
resume tables Nothing c = nothing_built c
resume tables Pause c =
    let n = c.next in
    record {
      equations =
          record { wire = n; formula = Get c.register } ∷
          record { wire = n + 1; formula = And c.go n } ∷
          record { wire = n + 2; formula = Status (n + 1) ended_code } ∷
          record { wire = n + 3; formula = And c.hold c.keep } ∷ [];
      status = n + 2;
      live = n;
      emits = [];
      variables = c.wires.variables;
      sets = λ k. record { condition = n + 3; value = n } ∷ [];
      next = n + 4;
    }
resume tables (Emit s e) c = nothing_built c
resume tables (Assign y e) c = nothing_built c
resume tables (If e p q) c =
    let m = c.register + registers tables p in
    let a = resume tables p (part_context c.go 2 c) in
    let b = resume tables q (other_context c.go m a c) in
    alternatives (writes1 p) (writes1 q) b.live c.next (c.next + 1) (below m a.sets) (from m b.sets)
    (live_own (c.next + 1) a b) a b
resume tables (Present t p q) c =
    let m = c.register + registers tables p in
    let a = resume tables p (part_context c.go 2 c) in
    let b = resume tables q (other_context c.go m a c) in
    alternatives (writes1 p) (writes1 q) b.live c.next (c.next + 1) (below m a.sets) (from m b.sets)
    (live_own (c.next + 1) a b) a b
resume tables (Seq p q) c =
    let n = c.next in
    let m = c.register + registers tables p in
    let a = resume tables p (part_context c.go 5 c) in
    let d = start_context (n + 4) m a c in
    let b = starting_if (ends1 p) (start tables q d) d in
    let x = behind (n + 2) a.live (below m a.sets) (from m b.sets) (turn_own (n + 4) a) a b in
    let y = resume tables q (other_context c.go m x c) in
    alternatives (writes_behind p q) (writes1 q) y.live n (n + 1) x.sets (from m y.sets)
    (live_own (n + 1) x y) x y
resume tables (Loop p) c =
    let n = c.next in
    let a = resume tables p (part_context c.go 3 c) in
    let d = start_context (n + 2) c.register a c in
    let b = starting_if (ends1 p) (start tables p d) d in
    behind n a.live a.sets b.sets (turn_own (n + 2) a) a b
resume tables (Par p q) c =
    let a = resume tables p (branch_context c) in
    let b = resume tables q (second_branch tables p c a) in
    beside tables p (c.next + 4) (live_own (c.next + 4) a b) c a b
resume tables (Trap p) c = of_trap_copy c (resume tables p (part_context c.go 1 c))
resume tables (Exit d) c = nothing_built c
resume tables (Abort true armed t p) c = weak_copy t c (resume tables p (weak_context c))
resume tables (Abort false armed t p) c =
    let a = resume tables p (tested_context c) in tested_copy t a.live ended_code c a
resume tables (Suspend armed t p) c =
    let a = resume tables p (held_context c) in tested_copy t a.live paused_code c a
resume tables (Local s v p) c =
    local_copy tables s (last_formula (signal_at tables s).kind c.register) c
    (resume tables p (local_context tables s c))
resume tables (Send ch e) c = waiting_copy c
resume tables (Receive ch) c = waiting_copy c
resume tables (SendWaits ch v) c = nothing_built c
resume tables (Sent ch) c = nothing_built c
resume tables (ReceiveWaits ch) c = nothing_built c
resume tables (Received ch) c = nothing_built c
