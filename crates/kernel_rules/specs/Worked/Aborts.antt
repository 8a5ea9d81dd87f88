-- Aborts and suspends, which look at the signal 0, and sends and receives in them.
use Rattle.std.specs.Prelude.{Bool, true, false, List, [], ◌∷◌}
use Rattle.kernel_terms.specs.Expressions.{IsPresent}
use Rattle.kernel_terms.specs.Statements.{Stmt, Pause, Assign, Seq, Loop, Abort, Suspend}
use Rattle.kernel_rules.specs.Rows.{int}
use Rattle.kernel_rules.specs.definitions.Signals.{Emission}
use Rattle.kernel_rules.specs.ShownTicks.{Shown, statuses, present, pauses_in, ends_in}
use Rattle.kernel_rules.specs.Worked.Words.{variable, emit, emit_value, assign, plus}

-- a tick with the signal 0
abbrev pub pauses_with : List Emission → Shown
pauses_with m = pauses_in (statuses (present ∷ [])) m

abbrev pub ends_with_it : List Emission → Shown
ends_with_it m = ends_in (statuses (present ∷ [])) m

-- abort(A){emit X; pause; emit X; pause; emit X;} emit Y;
abbrev pub aborted : (weak immediate : Bool) → Stmt
aborted weak immediate =
    Seq (Abort weak immediate (IsPresent 0)
    (Seq (emit 1) (Seq Pause (Seq (emit 1) (Seq Pause (emit 1)))))) (emit 2)

-- x = 1; immediate abort(A){x = 2; pause;} emit X(x);
abbrev pub aborted_assignment : (weak : Bool) → Stmt
aborted_assignment weak =
    Seq (assign 0 1) (Seq (Abort weak true (IsPresent 0) (Seq (assign 0 2) Pause))
    (emit_value 1 (variable 0)))

-- suspend(A){emit X; pause; emit X; pause; emit X;} emit Y;
abbrev pub suspended : Stmt
suspended =
    Seq (Suspend false (IsPresent 0) (Seq (emit 1) (Seq Pause (Seq (emit 1) (Seq Pause (emit 1))))))
    (emit 2)

-- while the test holds, nothing is assigned: suspend(A){pause; x = x + 1; emit X(x);}
abbrev pub suspended_assignment : Stmt
suspended_assignment =
    Suspend false (IsPresent 0)
    (Seq Pause (Seq (Assign 0 (plus (variable 0) (int 1))) (emit_value 1 (variable 0))))

-- abort(A){send C(5); emit X;}, of which the send waits, and of which it has completed
abbrev pub aborted_send : (weak : Bool) → Stmt → Stmt
aborted_send weak p = Abort weak true (IsPresent 0) (Seq p (emit 1))

-- emit X; pause;
abbrev pub one_turn : Stmt
one_turn = Seq (emit 1) Pause

-- suspend(A){emit X; pause;}
abbrev pub suspended_turn : Stmt
suspended_turn = Suspend false (IsPresent 0) one_turn

-- abort(A){emit X; pause;}
abbrev pub aborted_turn : (weak immediate : Bool) → Stmt
aborted_turn weak immediate = Abort weak immediate (IsPresent 0) one_turn

-- pause; p
abbrev pub begun_later : Stmt → Stmt
begun_later p = Seq Pause p

-- while(true){p pause;}
abbrev pub begun_again : Stmt → Stmt
begun_again p = Loop (Seq p Pause)
