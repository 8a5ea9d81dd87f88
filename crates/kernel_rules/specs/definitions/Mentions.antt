-- The variables, signals and channels that a statement mentions.
use Rattle.std.specs.Prelude.{ℕ, ◌==◌, Bool, false, ◌||◌, Option, Some, None}
use Rattle.kernel_terms.specs.Expressions.{Expression, Literal, Variable, SignalValue, ChannelValue, Unary, Binary, Cast, Test, IsPresent, Not, Both, Either}
use Rattle.kernel_terms.specs.Statements.{Stmt, Nothing, Pause, Emit, Assign, If, Present, Seq, Loop, Par, Trap, Exit, Abort, Suspend, Local, Send, Receive, SendWaits, Sent, ReceiveWaits, Received}

abbrev pub reads_variable : Expression → ℕ → Bool
reads_variable (Literal k n) x = false
reads_variable (Variable k y) x = y == x
reads_variable (SignalValue k s) x = false
reads_variable (ChannelValue k c) x = false
reads_variable (Unary k op e) x = reads_variable e x
reads_variable (Binary k op e f) x = reads_variable e x || reads_variable f x
reads_variable (Cast k e) x = reads_variable e x

abbrev pub reads_signal : Expression → ℕ → Bool
reads_signal (Literal k n) s = false
reads_signal (Variable k y) s = false
reads_signal (SignalValue k t) s = t == s
reads_signal (ChannelValue k c) s = false
reads_signal (Unary k op e) s = reads_signal e s
reads_signal (Binary k op e f) s = reads_signal e s || reads_signal f s
reads_signal (Cast k e) s = reads_signal e s

abbrev pub reads_channel : Expression → ℕ → Bool
reads_channel (Literal k n) c = false
reads_channel (Variable k y) c = false
reads_channel (SignalValue k s) c = false
reads_channel (ChannelValue k d) c = d == c
reads_channel (Unary k op e) c = reads_channel e c
reads_channel (Binary k op e f) c = reads_channel e c || reads_channel f c
reads_channel (Cast k e) c = reads_channel e c

abbrev pub tests_signal : Test → ℕ → Bool
tests_signal (IsPresent t) s = t == s
tests_signal (Not t) s = tests_signal t s
tests_signal (Both t u) s = tests_signal t s || tests_signal u s
tests_signal (Either t u) s = tests_signal t s || tests_signal u s

abbrev pub value_reads : (Expression → ℕ → Bool) → Option Expression → ℕ → Bool
value_reads reads None n = false
value_reads reads (Some e) n = reads e n

-- this holds of the statement or of one of its parts
abbrev pub of_any_part : (Stmt → Bool) → Stmt → Bool
of_any_part own Nothing = own Nothing
of_any_part own Pause = own Pause
of_any_part own (Emit s e) = own (Emit s e)
of_any_part own (Assign x e) = own (Assign x e)
of_any_part own (If e p q) = own (If e p q) || (of_any_part own p || of_any_part own q)
of_any_part own (Present t p q) = own (Present t p q) || (of_any_part own p || of_any_part own q)
of_any_part own (Seq p q) = own (Seq p q) || (of_any_part own p || of_any_part own q)
of_any_part own (Loop p) = own (Loop p) || of_any_part own p
of_any_part own (Par p q) = own (Par p q) || (of_any_part own p || of_any_part own q)
of_any_part own (Trap p) = own (Trap p) || of_any_part own p
of_any_part own (Exit d) = own (Exit d)
of_any_part own (Abort weak armed t p) = own (Abort weak armed t p) || of_any_part own p
of_any_part own (Suspend armed t p) = own (Suspend armed t p) || of_any_part own p
of_any_part own (Local s v p) = own (Local s v p) || of_any_part own p
of_any_part own (Send c e) = own (Send c e)
of_any_part own (Receive c) = own (Receive c)
of_any_part own (SendWaits c v) = own (SendWaits c v)
of_any_part own (Sent c) = own (Sent c)
of_any_part own (ReceiveWaits c) = own (ReceiveWaits c)
of_any_part own (Received c) = own (Received c)

-- the statement names the variable outside its parts
abbrev pub names_variable : ℕ → Stmt → Bool
names_variable x (Emit s e) = value_reads reads_variable e x
names_variable x (Assign y e) = (y == x) || reads_variable e x
names_variable x (If e p q) = reads_variable e x
names_variable x (Send c e) = reads_variable e x
names_variable x _ = false

-- likewise the signal: a local signal is named where it begins
abbrev pub names_signal : ℕ → Stmt → Bool
names_signal s (Emit t e) = (t == s) || value_reads reads_signal e s
names_signal s (Assign y e) = reads_signal e s
names_signal s (If e p q) = reads_signal e s
names_signal s (Present t p q) = tests_signal t s
names_signal s (Abort weak armed t p) = tests_signal t s
names_signal s (Suspend armed t p) = tests_signal t s
names_signal s (Local t v p) = t == s
names_signal s (Send c e) = reads_signal e s
names_signal s _ = false

-- likewise the channel
abbrev pub names_channel : ℕ → Stmt → Bool
names_channel c (Emit s e) = value_reads reads_channel e c
names_channel c (Assign y e) = reads_channel e c
names_channel c (If e p q) = reads_channel e c
names_channel c (Send d e) = (d == c) || reads_channel e c
names_channel c (Receive d) = d == c
names_channel c (SendWaits d v) = d == c
names_channel c (Sent d) = d == c
names_channel c (ReceiveWaits d) = d == c
names_channel c (Received d) = d == c
names_channel c _ = false

-- the statement or one of its parts reads or assigns the variable
abbrev pub mentions_variable : Stmt → ℕ → Bool
mentions_variable p x = of_any_part (names_variable x) p

-- the statement or one of its parts reads, tests, emits or begins the signal
abbrev pub mentions_signal : Stmt → ℕ → Bool
mentions_signal p s = of_any_part (names_signal s) p

-- the statement or one of its parts reads the channel's last value, sends on it or receives from it
abbrev pub mentions_channel : Stmt → ℕ → Bool
mentions_channel p c = of_any_part (names_channel c) p
