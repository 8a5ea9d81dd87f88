-- Small statements of each form, by whether they may end and where they may exit.
use Rattle.std.specs.Prelude.{ℕ, pos, Bool, true, false, List, [], ◌∷◌, ◌++◌}
use Rattle.kernel_terms.specs.Expressions.{IsPresent}
use Rattle.kernel_terms.specs.Statements.{Stmt, Nothing, Pause, If, Present, Seq, Loop, Par, Trap, Exit, Abort, Suspend, Local, Send, Receive, SendWaits, Sent, ReceiveWaits, Received}
use Rattle.kernel_rules.specs.Worked.Words.{variable, emit, assign}
use Rattle.kernel_rules.specs.Worked.Variables.{truth, forms_around}

-- while(true){pause;}
abbrev pub endless : Stmt
endless = Loop Pause

-- pause; exit to the depth;
abbrev pub exit_later : ℕ → Stmt
exit_later d = Seq Pause (Exit d)

-- if(true){p}else{q}
abbrev pub chosen : Stmt → Stmt → Stmt
chosen p q = If (truth true) p q

-- present(A){p}else{q}
abbrev pub asked_for : Stmt → Stmt → Stmt
asked_for p q = Present (IsPresent 0) p q

-- abort(A){p}, weak or not, and immediate or not
abbrev pub abort_of : (weak immediate : Bool) → Stmt → Stmt
abort_of weak immediate p = Abort weak immediate (IsPresent 0) p

-- suspend(A){p}, at its start and after it
abbrev pub suspend_of : (armed : Bool) → Stmt → Stmt
suspend_of armed p = Suspend armed (IsPresent 0) p

-- the forms without parts that end at once
abbrev pub instant_forms : List Stmt
instant_forms = Nothing ∷ emit 0 ∷ assign 0 1 ∷ []

-- the forms without parts that have a later tick
abbrev pub waiting_forms : List Stmt
waiting_forms =
    Pause ∷ Send 0 (variable 0) ∷ Receive 0 ∷ SendWaits 0 (pos 0) ∷ Sent 0 ∷ ReceiveWaits 0 ∷
    Received 0 ∷ []

-- these may end in their starting tick
abbrev pub ending_at_once : List Stmt
ending_at_once =
    instant_forms
    ++ (Sent 0 ∷ Received 0 ∷ chosen Nothing Pause ∷ chosen Pause Nothing ∷
    asked_for Nothing Pause ∷ asked_for Pause Nothing
    ∷ Seq Nothing Nothing ∷ Par Nothing Nothing ∷ Trap Nothing ∷ Trap (Exit 0) ∷
    abort_of false false Nothing
    ∷ abort_of true false Nothing ∷ abort_of false true Pause ∷ abort_of true true Pause ∷
    suspend_of false Nothing
    ∷ suspend_of true Nothing ∷ Local 0 (pos 0) Nothing ∷ [])

-- and these may not
abbrev pub not_ending_at_once : List Stmt
not_ending_at_once =
    Pause ∷ Exit 0 ∷ Send 0 (variable 0) ∷ Receive 0 ∷ SendWaits 0 (pos 0) ∷ ReceiveWaits 0 ∷
    chosen Pause Pause
    ∷ asked_for Pause Pause ∷ Seq Nothing Pause ∷ Seq Pause Nothing ∷ Loop Nothing ∷
    Par Nothing Pause ∷ Par Pause Nothing
    ∷ Trap Pause ∷ Trap (Exit 1) ∷ abort_of false false Pause ∷ abort_of true false Pause ∷
    suspend_of false Pause
    ∷ suspend_of true Pause ∷ Local 0 (pos 0) Pause ∷ []

-- these may end in a later tick
abbrev pub ending_later : List Stmt
ending_later =
    waiting_forms
    ++ (chosen Pause endless ∷ chosen endless Pause ∷ asked_for Pause endless ∷
    asked_for endless Pause ∷ Seq Pause Nothing
    ∷ Seq Nothing Pause ∷ Par Pause Nothing ∷ Par Nothing Pause ∷ Par Pause Pause ∷ Trap Pause ∷
    Trap (exit_later 0)
    ∷ abort_of false false endless ∷ abort_of true false endless ∷ abort_of false true endless ∷
    abort_of true true endless
    ∷ suspend_of false Pause ∷ suspend_of true Pause ∷ Local 0 (pos 0) Pause ∷ [])

-- and these may not
abbrev pub not_ending_later : List Stmt
not_ending_later =
    instant_forms
    ++ (Exit 0 ∷ chosen Nothing endless ∷ chosen endless Nothing ∷ asked_for Nothing endless ∷
    asked_for endless Nothing
    ∷ Seq Nothing Nothing ∷ Seq Pause endless ∷ Seq endless Nothing ∷ endless ∷
    Par Nothing Nothing ∷ Par Pause endless
    ∷ Par endless Pause ∷ Par Pause (Exit 0) ∷ Par (Exit 0) Pause ∷ Trap (Exit 0) ∷ Trap endless ∷
    Trap (exit_later 1)
    ∷ abort_of false false Nothing ∷ abort_of true false Nothing ∷ abort_of false true Nothing ∷
    abort_of true true Nothing
    ∷ suspend_of false endless ∷ suspend_of true endless ∷ Local 0 (pos 0) endless ∷ [])

-- these have a later tick, in which an abort around them may end them
abbrev pub staying : List Stmt
staying = waiting_forms ++ forms_around Pause

-- and these have none
abbrev pub not_staying : List Stmt
not_staying = Exit 0 ∷ (instant_forms ++ forms_around Nothing)

-- these may exit to no trap
abbrev pub not_exiting : List Stmt
not_exiting = instant_forms ++ waiting_forms

-- the forms that have parts but for a trap, with a statement as one of their parts, and a trap with another
abbrev pub around_exits : Stmt → Stmt → List Stmt
around_exits p in_trap =
    chosen p Nothing ∷ chosen Nothing p ∷ asked_for p Nothing ∷ asked_for Nothing p ∷
    Seq p Nothing ∷ Seq Nothing p ∷ Loop p ∷ Par p Nothing
    ∷ Par Nothing p ∷ Par p Pause ∷ Par Pause p ∷ Trap in_trap ∷ abort_of false false p ∷
    abort_of true false p ∷ abort_of false true p
    ∷ abort_of true true p ∷ suspend_of false p ∷ suspend_of true p ∷ Local 0 (pos 0) p ∷ []

-- these may exit to the depth 1 in their starting tick
abbrev pub exiting_at_once : List Stmt
exiting_at_once = Exit 1 ∷ around_exits (Exit 1) (Exit 2)

-- and these may not
abbrev pub not_exiting_at_once : List Stmt
not_exiting_at_once =
    Exit 0 ∷ Exit 2 ∷ Trap (Exit 0) ∷ Seq Pause (Exit 1) ∷ Seq (Exit 0) (Exit 1) ∷
    around_exits (exit_later 1) (Exit 1)

-- these may exit to the depth 1 in a later tick
abbrev pub exiting_later : List Stmt
exiting_later =
    Seq Pause (Exit 1) ∷ Loop (chosen Pause (Exit 1)) ∷ around_exits (exit_later 1) (exit_later 2)

-- and these may not
abbrev pub not_exiting_later : List Stmt
not_exiting_later =
    exit_later 0 ∷ exit_later 2 ∷ Trap (exit_later 0) ∷ Exit 1 ∷ Seq endless (Exit 1) ∷
    Loop (chosen endless (Exit 1)) ∷ around_exits (Exit 1) (exit_later 1)
