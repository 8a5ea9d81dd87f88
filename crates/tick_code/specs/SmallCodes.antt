-- Words of the worked examples.
use Rattle.std.specs.Prelude.{List, [], ◌∷◌}
use Rattle.java_values.specs.declared.kind.Kind.TheVariants.{Int}
use Rattle.java_values.specs.declared.op.Op2.TheVariants.{Div}
use Rattle.wire_code.specs.declared.formula.Formula.{Formula}
use Rattle.wire_code.specs.declared.formula.Formula.TheVariants.{Get, Apply2}
use Rattle.wire_code.specs.declared.equation.Equation.{Equation}
use Rattle.wire_code.specs.SmallEquations.{is}

-- a place of the frame, divided by what this formula gives
abbrev pub divided_by : Formula → List Equation
divided_by f = is 0 (Get 0) ∷ is 1 f ∷ is 2 (Apply2 Div Int Int 0 1) ∷ []
