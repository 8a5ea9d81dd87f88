-- Copies of small statements, as whole lists of equations.
use Rattle.std.specs.Prelude.{ℕ, pos, negsuc, Bool, true, List, [], ◌∷◌, None}
use Rattle.java_values.specs.declared.kind.Kind.TheVariants.{Int}
use Rattle.java_values.specs.declared.op.Op1.TheVariants.{Plus, Minus}
use Rattle.java_values.specs.declared.op.Op2.TheVariants.{Less, Equal, Sub, Add, Div}
use Rattle.kernel_terms.specs.Statements.{Stmt, Pause, Emit, Seq, Trap, Exit, Abort}
use Rattle.surf_graph.specs.definitions.Formulas.{Formula, Const, And, Or, Status, IsStatus, Greater, Equation}
use Rattle.kernel_terms.specs.Expressions.{Expression, Literal, Variable, Unary, Binary, IsPresent}
use Rattle.surf_graph.specs.definitions.Copies.{Context, Emits, Sets}
use Rattle.surf_graph.specs.definitions.SpelledOut.{gives}
use Rattle.wire_code.specs.declared.formula.Formula.TheVariants as wire
use Rattle.wire_code.specs.declared.equation.Equation.{Equation as WireEquation}

-- It ticks where wire 1 is on, is held where wire 2 is, and what it leaves is kept where wire 3 is.
abbrev pub given : Context
given =
    record {
      go = 1;
      hold = 2;
      keep = 3;
      wires = record { variables = λ x. 4; present = λ s. 5; value = λ s. 6; last = λ c. 7 };
      register = 0;
      next = 8;
    }

abbrev pub is : ℕ → Formula → Equation
is wire formula = record { wire = wire; formula = formula }

abbrev pub sets : ℕ → ℕ → Sets
sets condition value = record { condition = condition; value = value }

abbrev pub emits : ℕ → ℕ → ℕ → Emits
emits signal condition value = record { signal = signal; condition = condition; value = value }

-- a pure signal is emitted
abbrev pub emission : ℕ → Stmt
emission s = Emit s None

abbrev pub emission_then_pause : Stmt
emission_then_pause = Seq (emission 5) Pause

abbrev pub pause_then_emission : Stmt
pause_then_emission = Seq Pause (emission 5)

-- wire 10 tells that the emission has ended
abbrev pub emission_then_pause_equations : List Equation
emission_then_pause_equations =
    is 8 (Greater 11 13) ∷ is 10 (IsStatus 11 0)
    ∷ is 11 (Status 1 0) ∷ is 12 (Const (pos 0))
    ∷ is 13 (Status 10 1) ∷ is 14 (And 10 3) ∷ []

-- nothing is built of the emission, since a pause doesn't end in its starting tick
abbrev pub pause_then_emission_equations : List Equation
pause_then_emission_equations =
    is 8 (Greater 11 0) ∷ is 10 (IsStatus 11 0) ∷ is 11 (Status 1 1) ∷ is 12 (And 1 3) ∷ []

-- wire 8 is what both keep
abbrev pub pause_beside_emission_equations : List Equation
pause_beside_emission_equations =
    is 8 (And 3 10) ∷ is 9 (IsStatus 11 1) ∷ is 10 (Or 2 9) ∷ is 11 (Greater 13 15)
    ∷ is 13 (Status 1 1) ∷ is 14 (And 1 8)
    ∷ is 15 (Status 1 0) ∷ is 16 (Const (pos 0)) ∷ []

-- Wire 8 is the status of the pause. Wires from 10 on are further ones.
abbrev pub pause_operations : List WireEquation
pause_operations =
    gives 10 (wire.Const (pos 2)) ∷ gives 11 (wire.Apply1 Plus Int 10)
    ∷ gives 8 (wire.Choose 1 11 0) ∷ gives 9 (wire.And 1 3) ∷ []

-- the equations of that pause
abbrev pub pause_equations : List Equation
pause_equations = is 8 (Status 1 1) ∷ is 9 (And 1 3) ∷ []

-- the same in another order, with 50 and 51 for the further wires
abbrev pub scattered_pause_operations : List WireEquation
scattered_pause_operations =
    gives 9 (wire.And 1 3) ∷ gives 8 (wire.Choose 1 51 0)
    ∷ gives 50 (wire.Const (pos 2)) ∷ gives 51 (wire.Apply1 Plus Int 50) ∷ []

-- without the status as an `int`
abbrev pub incomplete_pause_operations : List WireEquation
incomplete_pause_operations =
    gives 9 (wire.And 1 3) ∷ gives 8 (wire.Choose 1 51 0) ∷ gives 50 (wire.Const (pos 2)) ∷ []

abbrev pub minus_two : Expression
minus_two = Unary Int Minus (Literal Int (pos 2))

abbrev pub quotient : Expression
quotient = Binary Int Div (Variable Int 0) minus_two

-- wire 4 is the variable
abbrev pub quotient_operations : List WireEquation
quotient_operations =
    gives 8 (wire.Const (negsuc 1)) ∷ gives 9 (wire.Apply2 Div Int Int 4 8) ∷ []

abbrev pub sum : Expression
sum = Binary Int Add (Variable Int 0) minus_two

abbrev pub sum_operations : List WireEquation
sum_operations =
    gives 8 (wire.Const (pos 2)) ∷ gives 9 (wire.Apply1 Minus Int 8)
    ∷ gives 10 (wire.Apply2 Add Int Int 4 9) ∷ []

-- wires 8, 11 and 13 are the statuses of the whole and of both parts; wire 10 tells that the first has ended
abbrev pub emission_then_pause_operations : List WireEquation
emission_then_pause_operations =
    gives 15 (wire.Apply2 Less Int Int 13 11) ∷ gives 8 (wire.Choose 15 11 13)
    ∷ gives 16 (wire.Const (pos 1)) ∷ gives 10 (wire.Apply2 Equal Int Int 11 16)
    ∷ gives 17 (wire.Const (pos 1)) ∷ gives 18 (wire.Apply1 Plus Int 17)
    ∷ gives 11 (wire.Choose 1 18 0) ∷ gives 12 (wire.Const (pos 0))
    ∷ gives 19 (wire.Const (pos 2)) ∷ gives 20 (wire.Apply1 Plus Int 19)
    ∷ gives 13 (wire.Choose 10 20 0) ∷ gives 14 (wire.And 10 3) ∷ []

abbrev pub trapped_exit : Stmt
trapped_exit = Trap (Exit 0)

-- Wire 9 is the status of the exit, 3, and wire 8 that of the trap. A status from 4 to 66 becomes one less.
abbrev pub trapped_exit_operations : List WireEquation
trapped_exit_operations =
    gives 10 (wire.Const (pos 3)) ∷ gives 11 (wire.Apply2 Equal Int Int 9 10)
    ∷ gives 12 (wire.Apply2 Less Int Int 10 9) ∷ gives 13 (wire.Const (pos 67))
    ∷ gives 14 (wire.Apply2 Less Int Int 9 13) ∷ gives 15 (wire.And 12 14)
    ∷ gives 16 (wire.Const (pos 1)) ∷ gives 17 (wire.Apply2 Sub Int Int 9 16)
    ∷ gives 18 (wire.Choose 15 17 9) ∷ gives 8 (wire.Choose 11 16 18)
    ∷ gives 19 (wire.Const (pos 3)) ∷ gives 20 (wire.Apply1 Plus Int 19)
    ∷ gives 9 (wire.Choose 1 20 0) ∷ []

-- a pause, aborted at once where a signal is present
abbrev pub aborted_pause : Bool → Stmt
aborted_pause weak = Abort weak true (IsPresent 0) Pause

-- Wire 9 is the test, wire 13 the status of the pause, wire 11 that of the abort, and wire 8 what the pause
-- keeps.
abbrev pub weak_abort_operations : List WireEquation
weak_abort_operations =
    gives 8 (wire.And 3 10) ∷ gives 9 (wire.And 5 5) ∷ gives 10 (wire.Or 2 12)
    ∷ gives 15 (wire.Const (pos 2)) ∷ gives 16 (wire.Apply2 Equal Int Int 13 15)
    ∷ gives 17 (wire.And 9 16) ∷ gives 18 (wire.Const (pos 1))
    ∷ gives 19 (wire.Apply1 Plus Int 18) ∷ gives 11 (wire.Choose 17 19 13)
    ∷ gives 20 (wire.Const (pos 2)) ∷ gives 12 (wire.Apply2 Equal Int Int 11 20)
    ∷ gives 21 (wire.Const (pos 2)) ∷ gives 22 (wire.Apply1 Plus Int 21)
    ∷ gives 13 (wire.Choose 1 22 0) ∷ gives 14 (wire.And 1 8) ∷ []

-- Wire 8 is the test, wire 9 where the pause starts, wire 15 its status, and wire 12 that of the abort.
abbrev pub strong_abort_operations : List WireEquation
strong_abort_operations =
    gives 8 (wire.And 5 5) ∷ gives 17 (wire.Not 8) ∷ gives 9 (wire.And 1 17)
    ∷ gives 10 (wire.And 1 8) ∷ gives 11 (wire.And 10 1) ∷ gives 12 (wire.Choose 11 14 15)
    ∷ gives 13 (wire.Or 2 11) ∷ gives 18 (wire.Const (pos 1))
    ∷ gives 14 (wire.Apply1 Plus Int 18) ∷ gives 19 (wire.Const (pos 2))
    ∷ gives 20 (wire.Apply1 Plus Int 19) ∷ gives 15 (wire.Choose 9 20 0)
    ∷ gives 16 (wire.And 9 3) ∷ []
