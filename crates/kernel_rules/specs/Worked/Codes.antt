-- Statements that end, pause and exit.
use Rattle.std.specs.Prelude.{ℕ, false, true}
use Rattle.kernel_terms.specs.Expressions.{IsPresent}
use Rattle.kernel_terms.specs.Statements.{Stmt, Pause, Seq, Loop, Par, Trap, Exit, Abort, Suspend}
use Rattle.kernel_rules.specs.Worked.Words.{emit}

-- pause; emit A;
abbrev pub later : Stmt
later = Seq Pause (emit 0)

-- trap(T){ trap(U){ exit to the depth; } emit A; } emit B;
abbrev pub nested_exit : ℕ → Stmt
nested_exit d = Seq (Trap (Seq (Trap (Exit d)) (emit 0))) (emit 1)

-- trap(T){ trap(U){ {exit to one depth;} || {exit to another;} } emit A; } emit B;
abbrev pub two_exits : ℕ → ℕ → Stmt
two_exits d e = Seq (Trap (Seq (Trap (Par (Exit d) (Exit e))) (emit 0))) (emit 1)

-- trap(T){ {pause; emit A;} || {exit(T);} } emit B;
abbrev pub exit_beside_pause : Stmt
exit_beside_pause = Seq (Trap (Par later (Exit 0))) (emit 1)

-- trap(T){ {exit(T);} || {pause; emit A;} } emit B;
abbrev pub pause_beside_exit : Stmt
pause_beside_exit = Seq (Trap (Par (Exit 0) later)) (emit 1)

-- trap(T){ pause; exit(T); emit A; } emit B;
abbrev pub later_exit : Stmt
later_exit = Seq (Trap (Seq Pause (Seq (Exit 0) (emit 0)))) (emit 1)

-- while(true){emit A; exit to the depth;}
abbrev pub exit_from_loop : ℕ → Stmt
exit_from_loop d = Loop (Seq (emit 0) (Exit d))

-- the body of an armed weak abort, of an armed strong one, and of a suspend that isn't armed
abbrev pub in_weak_abort : Stmt → Stmt
in_weak_abort p = Abort true true (IsPresent 2) p

abbrev pub in_strong_abort : Stmt → Stmt
in_strong_abort p = Abort false true (IsPresent 2) p

abbrev pub in_suspend : Stmt → Stmt
in_suspend p = Suspend false (IsPresent 2) p
