-- Exits to traps whose depths are below the limit.
use Rattle.std.specs.Prelude.{Bool, true, ◌&&◌, nat_lt}
use Rattle.kernel_terms.specs.Statements.{Stmt, Nothing, Pause, Emit, Assign, If, Present, Seq, Loop, Par, Trap, Exit, Abort, Suspend, Local, Send, Receive, SendWaits, Sent, ReceiveWaits, Received}
use Rattle.kernel_terms.specs.Limits.{most_traps}

-- each exit is to a trap of a depth below the limit
abbrev pub exits_fit : Stmt → Bool
exits_fit Nothing = true
exits_fit Pause = true
exits_fit (Emit s e) = true
exits_fit (Assign x e) = true
exits_fit (If e p q) = exits_fit p && exits_fit q
exits_fit (Present t p q) = exits_fit p && exits_fit q
exits_fit (Seq p q) = exits_fit p && exits_fit q
exits_fit (Loop p) = exits_fit p
exits_fit (Par p q) = exits_fit p && exits_fit q
exits_fit (Trap p) = exits_fit p
exits_fit (Exit d) = nat_lt d most_traps
exits_fit (Abort weak armed t p) = exits_fit p
exits_fit (Suspend armed t p) = exits_fit p
exits_fit (Local s v p) = exits_fit p
exits_fit (Send c e) = true
exits_fit (Receive c) = true
exits_fit (SendWaits c v) = true
exits_fit (Sent c) = true
exits_fit (ReceiveWaits c) = true
exits_fit (Received c) = true
