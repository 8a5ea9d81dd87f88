-- What a statement may do in its starting tick and in a later one, as far as its shape tells.
use Rattle.std.specs.Prelude.{◌≡◌, ℕ, suc, ◌==◌, Bool, true, false, ◌&&◌, ◌||◌}
use Rattle.kernel_terms.specs.Statements.{Stmt, Nothing, Pause, Emit, Assign, If, Present, Seq, Loop, Par, Trap, Exit, Abort, Suspend, Local, Send, Receive, SendWaits, Sent, ReceiveWaits, Received}

-- whether a tick may end the statement, and to which traps it may exit, by their depths
pub record Ways : Type 0 where
  pub ends : Bool
  pub exits : ℕ → Bool

abbrev pub never : Ways
never = record { ends = false; exits = λ d. false }

abbrev pub ends_alone : Ways
ends_alone = record { ends = true; exits = λ d. false }

abbrev pub exits_to : ℕ → Ways
exits_to n = record { ends = false; exits = λ d. n == d }

abbrev pub either : Ways → Ways → Ways
either a b = record { ends = a.ends || b.ends; exits = λ d. a.exits d || b.exits d }

-- the second after the first has ended
abbrev pub in_turn : Ways → Ways → Ways
in_turn a b = record { ends = a.ends && b.ends; exits = λ d. a.exits d || (a.ends && b.exits d) }

-- both, of which each has to end
abbrev pub beside : Ways → Ways → Ways
beside a b = record { ends = a.ends && b.ends; exits = λ d. a.exits d || b.exits d }

-- an exit to this trap ends it, and the depths of the traps around it are counted from it
abbrev pub within_trap : Ways → Ways
within_trap a = record { ends = a.ends || a.exits 0; exits = λ d. a.exits (suc d) }

-- in the starting tick
abbrev pub starting : Stmt → Ways
starting Nothing = ends_alone
starting Pause = never
starting (Emit s e) = ends_alone
starting (Assign x e) = ends_alone
starting (If e p q) = either (starting p) (starting q)
starting (Present t p q) = either (starting p) (starting q)
starting (Seq p q) = in_turn (starting p) (starting q)
starting (Loop p) = record { ends = false; exits = (starting p).exits }
starting (Par p q) = beside (starting p) (starting q)
starting (Trap p) = within_trap (starting p)
starting (Exit n) = exits_to n
starting (Abort weak armed t p) =
    record { ends = armed || (starting p).ends; exits = (starting p).exits }
starting (Suspend armed t p) = starting p
starting (Local s v p) = starting p
starting (Send c e) = never
starting (Receive c) = never
starting (SendWaits c v) = never
starting (Sent c) = ends_alone
starting (ReceiveWaits c) = never
starting (Received c) = ends_alone

-- it has a later tick in which it does something
abbrev pub resumes : Stmt → Bool
resumes Nothing = false
resumes Pause = true
resumes (Emit s e) = false
resumes (Assign x e) = false
resumes (If e p q) = resumes p || resumes q
resumes (Present t p q) = resumes p || resumes q
resumes (Seq p q) = resumes p || resumes q
resumes (Loop p) = resumes p
resumes (Par p q) = resumes p || resumes q
resumes (Trap p) = resumes p
resumes (Exit n) = false
resumes (Abort weak armed t p) = resumes p
resumes (Suspend armed t p) = resumes p
resumes (Local s v p) = resumes p
resumes (Send c e) = true
resumes (Receive c) = true
resumes (SendWaits c v) = true
resumes (Sent c) = true
resumes (ReceiveWaits c) = true
resumes (Received c) = true

-- a part may have ended, in the starting tick or in a later one
abbrev pub may_be_over : Ways → Ways → Bool
may_be_over first later = first.ends || later.ends

-- in a later tick
abbrev pub resuming : Stmt → Ways
resuming Nothing = never
resuming Pause = ends_alone
resuming (Emit s e) = never
resuming (Assign x e) = never
resuming (If e p q) = either (resuming p) (resuming q)
resuming (Present t p q) = either (resuming p) (resuming q)
resuming (Seq p q) =
    record {
      ends = (resuming q).ends ||
          ((resuming p).ends && (starting q).ends);
      exits = λ d. (resuming p).exits d ||
          ((resuming q).exits d || ((resuming p).ends && (starting q).exits d));
    }
resuming (Loop p) =
    record {
      ends = false;
      exits = λ d. (resuming p).exits d ||
          ((resuming p).ends && (starting p).exits d);
    }
resuming (Par p q) =
    record {
      ends = (resumes p || resumes q) &&
          (may_be_over (starting p) (resuming p) && may_be_over (starting q) (resuming q));
      exits = λ d. (resuming p).exits d || (resuming q).exits d;
    }
resuming (Trap p) = within_trap (resuming p)
resuming (Exit n) = never
resuming (Abort weak armed t p) = record { ends = resumes p; exits = (resuming p).exits }
resuming (Suspend armed t p) = resuming p
resuming (Local s v p) = resuming p
resuming (Send c e) = ends_alone
resuming (Receive c) = ends_alone
resuming (SendWaits c v) = ends_alone
resuming (Sent c) = ends_alone
resuming (ReceiveWaits c) = ends_alone
resuming (Received c) = ends_alone

-- it may end in its starting tick
abbrev pub ends0 : Stmt → Bool
ends0 p = (starting p).ends

-- it may end in a later tick
abbrev pub ends1 : Stmt → Bool
ends1 p = (resuming p).ends

-- it may exit to the trap of this depth, in its starting tick and in a later one
abbrev pub exits0 : Stmt → ℕ → Bool
exits0 p = (starting p).exits

abbrev pub exits1 : Stmt → ℕ → Bool
exits1 p = (resuming p).exits

-- no loop's body may end in its starting tick
abbrev pub LoopsWait : Stmt → Type 0
LoopsWait Nothing = Unit {0}
LoopsWait Pause = Unit {0}
LoopsWait (Emit s e) = Unit {0}
LoopsWait (Assign x e) = Unit {0}
LoopsWait (If e p q) = LoopsWait p × LoopsWait q
LoopsWait (Present t p q) = LoopsWait p × LoopsWait q
LoopsWait (Seq p q) = LoopsWait p × LoopsWait q
LoopsWait (Loop p) = (ends0 p ≡ false) × LoopsWait p
LoopsWait (Par p q) = LoopsWait p × LoopsWait q
LoopsWait (Trap p) = LoopsWait p
LoopsWait (Exit n) = Unit {0}
LoopsWait (Abort weak armed t p) = LoopsWait p
LoopsWait (Suspend armed t p) = LoopsWait p
LoopsWait (Local s v p) = LoopsWait p
LoopsWait (Send c e) = Unit {0}
LoopsWait (Receive c) = Unit {0}
LoopsWait (SendWaits c v) = Unit {0}
LoopsWait (Sent c) = Unit {0}
LoopsWait (ReceiveWaits c) = Unit {0}
LoopsWait (Received c) = Unit {0}
