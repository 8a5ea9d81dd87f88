-- The copy of a starting tick.
use Rattle.std.specs.Prelude.{ℕ, ◌+◌, ◌==◌, pos, true, false, cond, List, [], ◌∷◌, ◌++◌, Option, Some, None}
use Rattle.java_values.specs.declared.kind.Kind.{Kind}
use Rattle.kernel_terms.specs.declared.tables.Tables.{Tables}
use Rattle.kernel_terms.specs.TableEntries.{signal_at}
use Rattle.kernel_terms.specs.Statements.{Stmt, Nothing, Pause, Emit, Assign, If, Present, Seq, Loop, Par, Trap, Exit, Abort, Suspend, Local, Send, Receive, SendWaits, Sent, ReceiveWaits, Received}
use Rattle.kernel_terms.specs.MayEnd.{ends0}
use Rattle.kernel_rules.specs.definitions.Signals.{put_at}
use Rattle.kernel_rules.specs.definitions.Registers.{registers}
use Rattle.surf_graph.specs.definitions.Formulas.{Formula, Const, And, Choose, Zero, Status, Value, Holds}
use Rattle.surf_graph.specs.definitions.Copies.{Context, Copy, below, from, nothing_built, behind, alternatives, emitted_value, local_context, local_copy, branch_context, second_branch, beside, of_trap_copy, weak_context, weak_copy, tested_context, tested_copy, plain_copy, starting_if, other_context, start_context, part_context, choice_own, turn_own}
use Rattle.kernel_rules.specs.definitions.TickRule.{ended_code, paused_code, exit_code}

-- those that a starting copy may assign
abbrev pub writes0 : Stmt → List ℕ
writes0 Nothing = []
writes0 Pause = []
writes0 (Emit s e) = []
writes0 (Assign y e) = y ∷ []
writes0 (If e p q) = writes0 p ++ writes0 q
writes0 (Present t p q) = writes0 p ++ writes0 q
writes0 (Seq p q) = writes0 p ++ cond (ends0 p) (writes0 q) []
writes0 (Loop p) = writes0 p
writes0 (Par p q) = writes0 p ++ writes0 q
writes0 (Trap p) = writes0 p
writes0 (Exit d) = []
writes0 (Abort weak armed t p) = writes0 p
writes0 (Suspend armed t p) = writes0 p
writes0 (Local s v p) = writes0 p
writes0 (Send c e) = []
writes0 (Receive c) = []
writes0 (SendWaits c v) = []
writes0 (Sent c) = []
writes0 (ReceiveWaits c) = []
writes0 (Received c) = []

-- a choice; wire n + 2 is the condition
abbrev pub chosen_copy : Tables → Stmt → Stmt → Formula → Context → Copy → Copy → Copy
chosen_copy tables p q condition c a b =
    let n = c.next in
    let m = c.register + registers tables p in
    alternatives (writes0 p) (writes0 q) (n + 4) n 0 (below m a.sets) (from m b.sets)
    (choice_own condition c) a b

-- the formula of what a local signal begins with, 0 of its kind
abbrev pub first_formula : Option Kind → Formula
first_formula None = Const (pos 0)
first_formula (Some k) = Zero k

-- the starting copy
abbrev pub start : Tables → Stmt → Context → Copy
start tables Nothing c = plain_copy ended_code c
start tables Pause c =
    let n = c.next in
    record (plain_copy paused_code c) {
      equations =
          record { wire = n; formula = Status c.go paused_code } ∷
          record { wire = n + 1; formula = And c.go c.keep } ∷ [];
      sets = λ k. record { condition = n + 1; value = n + 1 } ∷ [];
      next = n + 2;
    }
start tables (Emit s e) c =
    let n = c.next in
    record (plain_copy ended_code c) {
      equations =
          record { wire = n; formula = Status c.go ended_code } ∷
          record { wire = n + 1; formula = emitted_value e c.wires } ∷ [];
      emits = record { signal = s; condition = c.go; value = n + 1 } ∷ [];
      next = n + 2;
    }
start tables (Assign y e) c =
    let n = c.next in
    record (plain_copy ended_code c) {
      equations =
          record { wire = n; formula = Status c.go ended_code } ∷
          record { wire = n + 1; formula = Value e c.wires } ∷
          record { wire = n + 2; formula = Choose c.go (n + 1) (c.wires.variables y) } ∷ [];
      variables = put_at c.wires.variables y (n + 2);
      next = n + 3;
    }
start tables (If e p q) c =
    let a = start tables p (part_context (c.next + 3) 5 c) in
    chosen_copy tables p q (Value e c.wires) c a
    (start tables q (other_context (c.next + 4) (c.register + registers tables p) a c))
start tables (Present t p q) c =
    let a = start tables p (part_context (c.next + 3) 5 c) in
    chosen_copy tables p q (Holds t c.wires) c a
    (start tables q (other_context (c.next + 4) (c.register + registers tables p) a c))
start tables (Seq p q) c =
    let n = c.next in
    let m = c.register + registers tables p in
    let a = start tables p (part_context c.go 3 c) in
    let d = start_context (n + 2) m a c in
    let b = starting_if (ends0 p) (start tables q d) d in
    behind n 0 (below m a.sets) (from m b.sets) (turn_own (n + 2) a) a b
start tables (Loop p) c = start tables p c
start tables (Par p q) c =
    let a = start tables p (branch_context c) in
    beside tables p 0 [] c a (start tables q (second_branch tables p c a))
start tables (Trap p) c = of_trap_copy c (start tables p (part_context c.go 1 c))
start tables (Exit d) c = plain_copy (exit_code d) c
start tables (Abort weak false t p) c = start tables p c
start tables (Abort true true t p) c = weak_copy t c (start tables p (weak_context c))
start tables (Abort false true t p) c =
    tested_copy t c.go ended_code c (start tables p (tested_context c))
start tables (Suspend armed t p) c = start tables p c
start tables (Local s v p) c =
    local_copy tables s (first_formula (signal_at tables s).kind) c
    (start tables p (local_context tables s c))
start tables (Send ch e) c =
    let n = c.next in
    record (plain_copy paused_code c) {
      equations =
          record { wire = n; formula = Status c.go paused_code } ∷
          record { wire = n + 1; formula = And c.go c.keep } ∷
          record { wire = n + 2; formula = Value e c.wires } ∷ [];
      sets =
          λ k. cond (k == c.register) (record { condition = n + 1; value = n + 1 } ∷
          []) (cond (k == c.register + 1) [] (record { condition = n + 1; value = n + 2 } ∷ []));
      next = n + 3;
    }
start tables (Receive ch) c =
    let n = c.next in
    record (plain_copy paused_code c) {
      equations =
          record { wire = n; formula = Status c.go paused_code } ∷
          record { wire = n + 1; formula = And c.go c.keep } ∷ [];
      sets = λ k. cond (k == c.register) (record { condition = n + 1; value = n + 1 } ∷ []) [];
      next = n + 2;
    }
start tables (SendWaits ch v) c = nothing_built c
start tables (Sent ch) c = nothing_built c
start tables (ReceiveWaits ch) c = nothing_built c
start tables (Received ch) c = nothing_built c
