-- Values of expressions and of tests.
use Rattle.std.specs.Prelude.{◌≡◌, ℕ, ℤ, Bool, not, ◌&&◌, ◌||◌}
use Rattle.java_values.specs.Arithmetic.{applied1, applied2, cast_to}
use Rattle.kernel_terms.specs.Expressions.{Expression, Literal, Variable, SignalValue, ChannelValue, Unary, Binary, Cast, kind_of, Test, IsPresent, Not, Both, Either}
use Rattle.kernel_rules.specs.definitions.Signals.{Env}

-- what an expression reads: variables, signals, and the last value of each channel
pub record Readings : Type 0 where
  pub variables : ℕ → ℤ
  pub env : Env
  pub last : ℕ → ℤ

abbrev pub value_of : Readings → Expression → ℤ
value_of r (Literal k n) = n
value_of r (Variable k x) = r.variables x
value_of r (SignalValue k s) = (r.env s).value
value_of r (ChannelValue k c) = r.last c
value_of r (Unary k op e) = applied1 op (kind_of e) (value_of r e)
value_of r (Binary k op e f) = applied2 op (kind_of e) (value_of r e) (kind_of f) (value_of r f)
value_of r (Cast k e) = cast_to k (value_of r e)

-- the expression has this value; the tick rule asks for no more
abbrev pub GivesValue : Readings → Expression → ℤ → Type 0
GivesValue r e v = v ≡ value_of r e

-- a test looks at presence alone
abbrev pub holds : Env → Test → Bool
holds env (IsPresent s) = (env s).present
holds env (Not t) = not (holds env t)
holds env (Both t u) = holds env t && holds env u
holds env (Either t u) = holds env t || holds env u
