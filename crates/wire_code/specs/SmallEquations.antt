-- Words of the worked examples.
use Rattle.std.specs.Prelude.{ℕ, ◌+◌, ℤ, pos, negsuc, List, [], ◌∷◌, ◌==◌, if◌then◌else◌}
use Rattle.wire_code.specs.declared.formula.Formula.{Formula}
use Rattle.wire_code.specs.declared.formula.Formula.TheVariants.{Const, And, Not}
use Rattle.wire_code.specs.declared.equation.Equation.{Equation}
use Rattle.wire_code.specs.Formulas.{number_at, formula_value}

abbrev pub is : ℕ → Formula → Equation
is wire formula = record { wire = wire; formula = formula }

-- -1, 0, 4 and 2 on the wires 0 to 3
abbrev pub four_wires : ℕ → ℤ
four_wires = number_at (negsuc 0 ∷ pos 0 ∷ pos 4 ∷ pos 2 ∷ [])

-- 7 at place 0 and 9 at place 1
abbrev pub small_frame : ℕ → ℤ
small_frame = number_at (pos 7 ∷ pos 9 ∷ [])

-- over this frame and these wires
abbrev pub value_of : Formula → ℤ
value_of f = formula_value small_frame four_wires f

-- each wire has a number greater by 10
abbrev pub by_ten : ℕ → ℕ
by_ten k = k + 10

-- wires 7, 2^31 and 3, in this order
abbrev pub scattered : List Equation
scattered =
    is 7 (Const (pos 4)) ∷ is 2147483648 (Not 7) ∷ is 3 (And 7 2147483648) ∷ []

-- their places
abbrev pub by_place : ℕ → ℕ
by_place k = if k == 7 then 0 else (if k == 3 then 2 else 1)
