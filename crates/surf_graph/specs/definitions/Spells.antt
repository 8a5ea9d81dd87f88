-- Operations among which equations are spelled, in whatever order and with whatever further wires.
use Rattle.std.specs.Prelude.{ℕ, List}
use Rattle.std.specs.List.{All, Contains}
use Rattle.surf_graph.specs.definitions.Formulas.{Equation}
use Rattle.surf_graph.specs.definitions.SpelledOut.{gives, spelled}
use Rattle.wire_code.specs.declared.equation.Equation.{Equation as WireEquation}

-- The operations of this equation, with further wires from `first` on, are among them.
pub record IsSpelled (ops : List WireEquation) (e : Equation) : Type 0 where
  pub first : ℕ
  pub parts : All (Contains ops) (spelled first e.formula).equations
  pub last : Contains ops (gives e.wire (spelled first e.formula).operation)

-- those of each of these equations
abbrev pub Spells : List Equation → List WireEquation → Type 0
Spells macros ops = All (IsSpelled ops) macros
