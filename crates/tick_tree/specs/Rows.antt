-- Small statements and their trees.
use Rattle.std.specs.Prelude.{ℕ, pos, true, false, List, [], ◌∷◌, get_or, Some, None}
use Rattle.java_values.specs.declared.kind.Kind.TheVariants as kind
use Rattle.java_values.specs.declared.op.Op1.TheVariants as op1
use Rattle.java_values.specs.declared.op.Op2.TheVariants as op2
use Rattle.kernel_terms.specs.declared.sig_test.SigTest.TheVariants as sig_test
use Rattle.kernel_terms.specs.declared.term.Term.{Term}
use Rattle.kernel_terms.specs.declared.term.Form.{Form}
use Rattle.kernel_terms.specs.declared.term.Form.TheViews as form
use Rattle.kernel_terms.specs.declared.term.Form.TheVariants as plain
use Rattle.kernel_terms.specs.Expressions.{Expression, Literal, Variable, SignalValue, ChannelValue, Unary, Binary, Cast, Test, IsPresent, Not}
use Rattle.kernel_terms.specs.Expressions as tests
use Rattle.kernel_terms.specs.Statements.{Stmt, Nothing, Pause, Emit, Assign, If, Present, Loop, Par, Trap, Abort, Suspend, Local, Send, sequence}
use Rattle.kernel_terms.specs.Statements as stmt
use Rattle.tick_tree.specs.definitions.Trees.{Tree, One, Seq, Alt, Both}

abbrev pub number : ℕ → Expression
number n = Literal kind.Int (pos n)

abbrev pub plus : Expression → Expression → Expression
plus e f = Binary kind.Int op2.Add e f

-- `signal A; present(A){emit A;}`, where A has the number 0
abbrev pub causes_itself : Stmt
causes_itself = Local 0 (pos 0) (Present (IsPresent 0) (Emit 0 None) Nothing)

-- `abort(immediate A){emit A; pause;} emit B;` and the same with `weak abort`, where A and B have the numbers 0
-- and 1
abbrev pub sees_own_emission : Stmt
sees_own_emission =
    stmt.Seq (Abort false true (IsPresent 0) (stmt.Seq (Emit 0 None) Pause)) (Emit 1 None)

abbrev pub weakly_sees_own_emission : Stmt
weakly_sees_own_emission =
    stmt.Seq (Abort true true (IsPresent 0) (stmt.Seq (Emit 0 None) Pause)) (Emit 1 None)

-- `emit S(#R);`, where S has the number 0, and R this one
abbrev pub emits_value_of : ℕ → Stmt
emits_value_of s = Emit 0 (Some (SignalValue kind.Int s))

-- `pause; emit A; pause; emit B;`
abbrev pub two_pauses : Stmt
two_pauses = sequence (Pause ∷ Emit 0 None ∷ Pause ∷ Emit 1 None ∷ [])

-- the places of its four statements
abbrev pub places : ℕ → ℕ
places n = get_or (0 ∷ 7 ∷ 15 ∷ 22 ∷ []) n 0

abbrev pub bare_leaf : (number at : ℕ) → Tree
bare_leaf number at = One (record { number = number; at = at; nodes = 0; reads = []; writes = [] })

abbrev pub emission_leaf : (number at nodes : ℕ) (reads : List ℕ) (signal : ℕ) → Tree
emission_leaf number at nodes reads signal =
    One (record { number = number; at = at; nodes = nodes; reads = reads; writes = signal ∷ [] })

-- Either the first pause ends, and `emit A` and the second pause start, or the second pause ends and `emit B` starts.
abbrev pub two_pauses_resumed : Tree
two_pauses_resumed =
    Alt
    (Seq (bare_leaf 0 0) (Seq (emission_leaf 1 7 0 [] 0) (bare_leaf 2 15)))
    (Seq (bare_leaf 3 15) (emission_leaf 4 22 0 [] 1))

-- `while(true){weak abort(A){while(true){int signal S; emit S(1); emit B(#S); pause; emit S(5); emit B(#S);}}}`,
-- where A, B and S have the numbers 0, 1 and 2
abbrev pub new_copies : Stmt
new_copies =
    Loop (Abort true false (IsPresent 0) (Loop (Local 2 (pos 0) (sequence (
    Emit 2 (Some (number 1)) ∷
    Emit 1 (Some (SignalValue kind.Int 2)) ∷
    Pause ∷
    Emit 2 (Some (number 5)) ∷
    Emit 1 (Some (SignalValue kind.Int 2)) ∷ [])))))

-- The copy 2 of S is the one that goes on, 3 is that of the inner loop's next turn, and 4 that of the outer
-- loop's. The place of a statement is its number here.
abbrev pub new_copies_resumed : Tree
new_copies_resumed =
    Seq
    (Both
    (One (record { number = 0; at = 0; nodes = 1; reads = 0 ∷ []; writes = [] }))
    (Seq
    (Seq (bare_leaf 1 3) (Seq (emission_leaf 2 4 1 [] 2) (emission_leaf 3 5 1 (2 ∷ []) 1)))
    (Seq (emission_leaf 4 1 1 [] 3) (Seq (emission_leaf 5 2 1 (3 ∷ []) 1) (bare_leaf 6 3)))))
    (Seq (emission_leaf 7 1 1 [] 4) (Seq (emission_leaf 8 2 1 (4 ∷ []) 1) (bare_leaf 9 3)))

-- `send C(5)`
abbrev pub send_five : Stmt
send_five = Send 0 (number 5)

-- `present(A){pause;}`
abbrev pub pause_if_present : Stmt
pause_if_present = Present (IsPresent 0) Pause Nothing

-- `if(x < 5){emit A;}`
abbrev pub emit_if_less : Stmt
emit_if_less =
    If (Binary kind.Boolean op2.Less (Variable kind.Int 0) (number 5)) (Emit 0 None) Nothing

-- `present(!A && B){emit C;}`
abbrev pub emit_if_alone : Stmt
emit_if_alone = Present (tests.Both (Not (IsPresent 0)) (IsPresent 1)) (Emit 2 None) Nothing

-- `trap{ suspend(A){pause;} || abort(A){present(B){pause;}else{if(x < 5){pause;}else{pause;}}} }`, where A and B have
-- the numbers 0 and 1. Their places are their numbers here.
abbrev pub joints : Stmt
joints =
    Trap (Par (Suspend false (IsPresent 0) Pause)
    (Abort false false (IsPresent 0)
    (Present (IsPresent 1) Pause
    (If (Binary kind.Boolean op2.Less (Variable kind.Int 0) (number 5)) Pause Pause))))

abbrev pub test_leaf : (number at signal : ℕ) → Tree
test_leaf number at signal =
    One (record { number = number; at = at; nodes = 1; reads = signal ∷ []; writes = [] })

-- In the starting tick neither the suspend nor the abort looks at its test.
abbrev pub joints_started : Tree
joints_started =
    Both
    (bare_leaf 0 1)
    (Seq (test_leaf 1 3 1) (Alt (bare_leaf 2 4) (Seq (One (record {
      number = 3;
      at = 5;
      nodes = 3;
      reads = [];
      writes = [];
    })) (Alt (bare_leaf 4 6) (bare_leaf 5 7)))))

-- In a later tick both do, before their bodies, and no choice is made anew.
abbrev pub joints_resumed : Tree
joints_resumed =
    Both
    (Seq (test_leaf 0 0 0) (bare_leaf 1 1))
    (Seq (test_leaf 2 2 0) (Alt (bare_leaf 3 4) (Alt (bare_leaf 4 6) (bare_leaf 5 7))))

-- `{emit A;} || {present(A){pause;}else{emit B;}}`
abbrev pub sees_beside : Stmt
sees_beside = Par (Emit 0 None) (Present (IsPresent 0) Pause (Emit 1 None))

-- `{present(A){emit B;}} || {present(B){emit A;}}`
abbrev pub see_each_other : Stmt
see_each_other =
    Par (Present (IsPresent 0) (Emit 1 None) Nothing) (Present (IsPresent 1) (Emit 0 None) Nothing)

-- `suspend(A){pause; emit A;}`, and the same with `abort`
abbrev pub suspends_itself : Stmt
suspends_itself = Suspend false (IsPresent 0) (stmt.Seq Pause (Emit 0 None))

abbrev pub aborts_itself : Stmt
aborts_itself = Abort false false (IsPresent 0) (stmt.Seq Pause (Emit 0 None))

abbrev pub term_at : ℕ → Form → Term
term_at at form = record { at = at; form = form }

-- The term of `{emit A;} || {present(A){pause;}else{emit B;}}`, and that of its second branch, with the places of
-- their first tokens in this text.
abbrev pub testing_term : Term
testing_term =
    term_at 14 (form.Present (sig_test.Signal 0) (term_at 25 plain.Pause)
    (term_at 37 (plain.Emit 1 None)))

abbrev pub beside_term : Term
beside_term = term_at 0 (form.Par (term_at 1 (plain.Emit 0 None) ∷ testing_term ∷ []))

abbrev pub beside_term_started : Tree
beside_term_started =
    Both (emission_leaf 0 1 0 [] 0)
    (Seq (test_leaf 1 14 0) (Alt (bare_leaf 2 25) (emission_leaf 3 37 0 [] 1)))

abbrev pub beside_term_resumed : Tree
beside_term_resumed = bare_leaf 0 25

-- `x = 1; pause; x = #S; pause; emit S(x + 4);`, where S has the number 0
abbrev pub reads_before_emission : Stmt
reads_before_emission =
    sequence (Assign 0 (number 1) ∷ Pause ∷ Assign 0 (SignalValue kind.Int 0) ∷ Pause ∷
    Emit 0 (Some (plus (Variable kind.Int 0) (number 4))) ∷ [])

-- `if(b){x = #S;}else{emit S(x + 2);} pause;`
abbrev pub reads_or_emits : Stmt
reads_or_emits =
    sequence (If (Variable kind.Boolean 1) (Assign 0 (SignalValue kind.Int 0))
    (Emit 0 (Some (plus (Variable kind.Int 0) (number 2)))) ∷ Pause ∷ [])

-- `present(A){present(B){emit C;}}else{present(C){emit B;}}`, where A, B and C have the numbers 0 to 2
abbrev pub choices_see_each_other : Stmt
choices_see_each_other =
    Present (IsPresent 0) (Present (IsPresent 1) (Emit 2 None) Nothing)
    (Present (IsPresent 2) (Emit 1 None) Nothing)

-- `-#S + (long) (#R + #C)` and `!(A && !B) || D`, where the signals have the numbers 0 to 2 and 5 and the channel 4
abbrev pub reading_all : Expression
reading_all =
    Binary kind.Long op2.Add (Unary kind.Int op1.Minus (SignalValue kind.Int 0))
    (Cast kind.Long (plus (SignalValue kind.Int 1) (ChannelValue kind.Int 4)))

abbrev pub testing_all : Test
testing_all = tests.Either (Not (tests.Both (IsPresent 0) (Not (IsPresent 2)))) (IsPresent 5)

abbrev pub reading_leaf : (writes : List ℕ) → Tree
reading_leaf writes =
    One (record { number = 0; at = 0; nodes = 7; reads = 0 ∷ 1 ∷ []; writes = writes })

abbrev pub testing_leaf : Tree
testing_leaf = One (record { number = 0; at = 0; nodes = 7; reads = 0 ∷ 2 ∷ 5 ∷ []; writes = [] })

-- `while(true){pause;}`, and the same before `emit A;` and in another loop
abbrev pub endless : Stmt
endless = Loop Pause

abbrev pub endless_resumed : Tree
endless_resumed = Seq (bare_leaf 0 0) (bare_leaf 1 0)
