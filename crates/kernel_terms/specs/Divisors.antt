-- The divisors that are allowed.
use Rattle.std.specs.Prelude.{ℤ, pos, Bool, true, false, ◌&&◌, not, Option, Some, None}
use Rattle.std.specs.Ordering.{int_eq}
use Rattle.java_values.specs.declared.kind.Kind.TheVariants as kind
use Rattle.java_values.specs.declared.op.Op1.{Op1}
use Rattle.java_values.specs.declared.op.Op1.TheVariants as op1
use Rattle.java_values.specs.declared.op.Op2.{Op2}
use Rattle.java_values.specs.declared.op.Op2.TheVariants as op2
use Rattle.java_values.specs.Kinds.{is_integer}
use Rattle.kernel_terms.specs.Expressions.{Expression, Literal, Variable, SignalValue, ChannelValue, Unary, Binary, Cast}
use Rattle.kernel_terms.specs.Statements.{Stmt, Nothing, Pause, Emit, Assign, If, Present, Seq, Loop, Par, Trap, Exit, Abort, Suspend, Local, Send, Receive, SendWaits, Sent, ReceiveWaits, Received}

abbrev pub is_nonzero : ℤ → Bool
is_nonzero n = not (int_eq n (pos 0))

-- an integer literal other than 0, but no character
abbrev pub is_number : Expression → Bool
is_number (Literal kind.Int n) = is_nonzero n
is_number (Literal kind.Long n) = is_nonzero n
is_number _ = false

abbrev pub is_minus : Op1 → Bool
is_minus op1.Minus = true
is_minus _ = false

-- an integer or character literal other than 0, or a minus before an integer literal other than 0
abbrev pub is_divisor : Expression → Bool
is_divisor (Literal k n) = is_integer k && is_nonzero n
is_divisor (Unary k op e) = is_minus op && is_number e
is_divisor _ = false

abbrev pub is_allowed : Op2 → Expression → Bool
is_allowed op2.Div e = is_divisor e
is_allowed op2.Rem e = is_divisor e
is_allowed _ e = true

-- each divisor in the expression is allowed
abbrev pub has_divisors : Expression → Bool
has_divisors (Literal k n) = true
has_divisors (Variable k x) = true
has_divisors (SignalValue k s) = true
has_divisors (ChannelValue k c) = true
has_divisors (Unary k op e) = has_divisors e
has_divisors (Binary k op e f) = has_divisors e && (has_divisors f && is_allowed op f)
has_divisors (Cast k e) = has_divisors e

abbrev pub given_divisors : Option Expression → Bool
given_divisors None = true
given_divisors (Some e) = has_divisors e

-- each divisor in the statement is
abbrev pub divisors_are_allowed : Stmt → Bool
divisors_are_allowed Nothing = true
divisors_are_allowed Pause = true
divisors_are_allowed (Emit s e) = given_divisors e
divisors_are_allowed (Assign x e) = has_divisors e
divisors_are_allowed (If e p q) =
    has_divisors e && (divisors_are_allowed p && divisors_are_allowed q)
divisors_are_allowed (Present t p q) = divisors_are_allowed p && divisors_are_allowed q
divisors_are_allowed (Seq p q) = divisors_are_allowed p && divisors_are_allowed q
divisors_are_allowed (Loop p) = divisors_are_allowed p
divisors_are_allowed (Par p q) = divisors_are_allowed p && divisors_are_allowed q
divisors_are_allowed (Trap p) = divisors_are_allowed p
divisors_are_allowed (Exit d) = true
divisors_are_allowed (Abort weak armed t p) = divisors_are_allowed p
divisors_are_allowed (Suspend armed t p) = divisors_are_allowed p
divisors_are_allowed (Local s v p) = divisors_are_allowed p
divisors_are_allowed (Send c e) = has_divisors e
divisors_are_allowed (Receive c) = true
divisors_are_allowed (SendWaits c v) = true
divisors_are_allowed (Sent c) = true
divisors_are_allowed (ReceiveWaits c) = true
divisors_are_allowed (Received c) = true
