-- Quotients whose divisors are literals.
use Rattle.std.specs.Prelude.{ℤ, pos}
use Rattle.java_values.specs.declared.kind.Kind.TheVariants as kind
use Rattle.java_values.specs.declared.op.Op2.TheVariants as op2
use Rattle.kernel_terms.specs.Expressions.{Expression, Literal, Variable, Binary}

abbrev pub by : ℤ → Expression
by n = Binary kind.Int op2.Div (Variable kind.Int 0) (Literal kind.Int n)

abbrev pub by_zero : Expression
by_zero = by (pos 0)

abbrev pub by_two : Expression
by_two = by (pos 2)
