-- Statements on variables: sequences, branches, loops and parallels.
use Rattle.std.specs.Prelude.{ℕ, pos, Bool, true, false, cond, List, [], ◌∷◌, Some, None}
use Rattle.java_values.specs.declared.kind.Kind.TheVariants as kind
use Rattle.java_values.specs.declared.op.Op1.TheVariants as op1
use Rattle.kernel_terms.specs.Expressions.{Expression, Literal, Variable, ChannelValue, Unary, Cast, Test, IsPresent, Not, Both, Either}
use Rattle.kernel_terms.specs.Statements.{Stmt, Nothing, Pause, Emit, Assign, If, Present, Seq, Loop, Par, Trap, Exit, Abort, Suspend, Local, Send, Receive, SendWaits, Sent, ReceiveWaits, Received}
use Rattle.kernel_rules.specs.Rows.{int}
use Rattle.kernel_rules.specs.Worked.Words.{variable, signal_value, plus, emit, emit_value, assign}

-- x = 1; emit A(x); x = 2;
abbrev pub assigned_twice : Stmt
assigned_twice = Seq (assign 0 1) (Seq (emit_value 0 (variable 0)) (assign 0 2))

-- x = 1; y = 2; x = x + y; pause; emit A(x); emit B(y);
abbrev pub summed_up : Stmt
summed_up =
    Seq (assign 0 1)
    (Seq (assign 1 2) (Seq (Assign 0 (plus (variable 0) (variable 1)))
    (Seq Pause (Seq (emit_value 0 (variable 0)) (emit_value 1 (variable 1))))))

-- emit A; pause; emit B; pause;
abbrev pub two_pauses : Stmt
two_pauses = Seq (emit 0) (Seq Pause (Seq (emit 1) Pause))

abbrev pub truth : Bool → Expression
truth b = Literal kind.Boolean (cond b (pos 1) (pos 0))

-- if(b){emit A; pause; emit A;}else{emit B;}
abbrev pub branched : Bool → Stmt
branched b = If (truth b) (Seq (emit 0) (Seq Pause (emit 0))) (emit 1)

-- present(S){emit A; pause; emit A;}else{emit B;}, with the signal 2 for S
abbrev pub asked : Stmt
asked = Present (IsPresent 2) (Seq (emit 0) (Seq Pause (emit 0))) (emit 1)

-- if(x){p}else{q}, with x of kind `boolean`
abbrev pub asked_of_variable : Stmt → Stmt → Stmt
asked_of_variable p q = If (Variable kind.Boolean 0) p q

-- x = true; if(x){x = false; pause; emit A;}else{emit B;}
abbrev pub made_false : Stmt
made_false =
    Seq (Assign 0 (truth true))
    (asked_of_variable (Seq (Assign 0 (truth false)) (Seq Pause (emit 0))) (emit 1))

-- if(x){emit A;}else{x = true; pause; emit B;}
abbrev pub made_true : Stmt
made_true = asked_of_variable (emit 0) (Seq (Assign 0 (truth true)) (Seq Pause (emit 1)))

-- present(S){emit B;}else{emit A; pause; emit A;}, with the signal 2 for S
abbrev pub asked_for_absence : Stmt
asked_for_absence = Present (IsPresent 2) (emit 1) (Seq (emit 0) (Seq Pause (emit 0)))

-- while(true){x = x + 1; emit A(x); pause; emit B(x);}
abbrev pub counted : Stmt
counted =
    Loop (Seq (Assign 0 (plus (variable 0) (int 1)))
    (Seq (emit_value 0 (variable 0)) (Seq Pause (emit_value 1 (variable 0)))))

-- p emit B(x);
abbrev pub then_shown : Stmt → Stmt
then_shown p = Seq p (emit_value 1 (variable 0))

-- {p || q} emit B(x);
abbrev pub beside_then_shown : Stmt → Stmt → Stmt
beside_then_shown p q = then_shown (Par p q)

-- x = n; pause;
abbrev pub assigns_and_pauses : ℕ → Stmt
assigns_and_pauses n = Seq (assign 0 n) Pause

abbrev pub pauses_twice : Stmt
pauses_twice = Seq Pause Pause

-- if(false){x = 1;}
abbrev pub may_assign : Stmt
may_assign = If (Literal kind.Boolean (pos 0)) (assign 0 1) Nothing

-- the forms that have parts, with a statement as each of their parts
abbrev pub forms_around : Stmt → List Stmt
forms_around p =
    If (truth true) p Nothing ∷ If (truth true) Nothing p ∷ Present (IsPresent 0) p Nothing ∷
    Present (IsPresent 0) Nothing p
    ∷ Seq p Nothing ∷ Seq Nothing p ∷ Loop p ∷ Par p Nothing ∷ Par Nothing p ∷ Trap p ∷
    Abort false false (IsPresent 0) p
    ∷ Abort true true (IsPresent 0) p ∷ Suspend false (IsPresent 0) p ∷
    Suspend true (IsPresent 0) p ∷ Local 0 (pos 0) p ∷ []

-- the forms without parts, but for an assignment
abbrev pub forms_alone : List Stmt
forms_alone =
    Nothing ∷ Pause ∷ Emit 0 None ∷ Exit 0 ∷ Send 0 (variable 0) ∷ Receive 0 ∷ SendWaits 0 (pos 0) ∷
    Sent 0 ∷ ReceiveWaits 0 ∷ Received 0 ∷ []

abbrev pub numbers : List ℕ
numbers = 0 ∷ 1 ∷ 2 ∷ 3 ∷ 4 ∷ 5 ∷ []

abbrev pub sum_of : ℕ → ℕ → ℕ → Expression
sum_of x s c = plus (variable x) (plus (signal_value s) (ChannelValue kind.Int c))

-- With numbers for names: emit S0(v0 + #S1 + #C0); v1 = -(v2 + #S2 + #C1); if((int)(v3 + #S3 + #C2)){send
-- C4(v4 + #S5 + #C5);}
abbrev pub mentioning : Stmt
mentioning =
    Seq (Emit 0 (Some (sum_of 0 1 0)))
    (Seq (Assign 1 (Unary kind.Int op1.Minus (sum_of 2 2 1)))
    (If (Cast kind.Int (sum_of 3 3 2)) (Send 4 (sum_of 4 5 5)) Nothing))

-- tests of the signals 1 to 4
abbrev pub tested : Stmt
tested =
    Seq (Present (Both (IsPresent 1) (Not (IsPresent 2))) Nothing Nothing)
    (Seq (Abort false false (Either (IsPresent 3) (IsPresent 1)) Nothing)
    (Seq (Suspend false (IsPresent 4) Nothing) (Local 2 (pos 0) Nothing)))

-- sends and receives on the channels 0 to 3 that wait or have completed
abbrev pub waits : Stmt
waits =
    Seq (SendWaits 0 (pos 5)) (Seq (Sent 1) (Seq (ReceiveWaits 2) (Seq (Received 3) (Receive 3))))

-- trap(T){ {x = 1; p} || {y = 2; q} } emit A(x); emit B(y);
abbrev pub assigns_beside : Stmt → Stmt → Stmt
assigns_beside p q =
    Seq (Trap (Par (Seq (assign 0 1) p) (Seq (assign 1 2) q)))
    (Seq (emit_value 0 (variable 0)) (emit_value 1 (variable 1)))

-- trap(T){ {x = 1; p} || {x = 2; q} } emit B(x);
abbrev pub both_assign : Stmt → Stmt → Stmt
both_assign p q = then_shown (Trap (Par (Seq (assign 0 1) p) (Seq (assign 0 2) q)))

-- trap(T){ {if(false){x = 1;} p} || {x = 2; q} } emit B(x);
abbrev pub second_assigns : Stmt → Stmt → Stmt
second_assigns p q = then_shown (Trap (Par (Seq may_assign p) (Seq (assign 0 2) q)))

-- an expression, and the forms that have it as one of their operands
abbrev pub expressions_around : Expression → List Expression
expressions_around e =
    e ∷ Unary kind.Int op1.Minus e ∷ plus e (int 4) ∷ plus (int 4) e ∷ Cast kind.Int e ∷ []

-- each form that has an expression, with this one
abbrev pub forms_with : Expression → List Stmt
forms_with e = emit_value 1 e ∷ Assign 1 e ∷ If e Nothing Nothing ∷ Send 1 e ∷ []

-- each form that has a test, with this one
abbrev pub forms_testing : Test → List Stmt
forms_testing t =
    Present t Nothing Nothing ∷ Abort false false t Nothing ∷ Abort true true t Nothing ∷
    Suspend false t Nothing ∷ []

-- each form of test, of the signal 3
abbrev pub tests_of_three : List Test
tests_of_three =
    IsPresent 3 ∷ Not (IsPresent 3) ∷ Both (IsPresent 3) (IsPresent 4) ∷
    Both (IsPresent 4) (IsPresent 3) ∷ Either (IsPresent 3) (IsPresent 4)
    ∷ Either (IsPresent 4) (IsPresent 3) ∷ []

-- each form that names a channel outside of an expression, with the channel 3
abbrev pub forms_on_channel : List Stmt
forms_on_channel =
    Send 3 (int 4) ∷ Receive 3 ∷ SendWaits 3 (pos 4) ∷ Sent 3 ∷ ReceiveWaits 3 ∷ Received 3 ∷ []

-- each form that names a signal outside of an expression and of a test, with the signal 3
abbrev pub forms_on_signal : List Stmt
forms_on_signal = emit 3 ∷ emit_value 3 (int 4) ∷ Local 3 (pos 4) Nothing ∷ []

-- each form without parts that names nothing
abbrev pub nameless_forms : List Stmt
nameless_forms = Nothing ∷ Pause ∷ Exit 3 ∷ []
