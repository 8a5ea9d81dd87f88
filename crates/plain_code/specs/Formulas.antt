-- What a list of equations says of its wires.
use Rattle.std.specs.Prelude.{◌≡◌, ℕ, ◌+◌, ◌<◌, ℤ, pos, Bool, true, false, ◌&&◌, ◌||◌, not, List, [], ◌∷◌, slice_index_or, zero}
use Rattle.plain_code.specs.declared.formula.Formula.{Formula}
use Rattle.plain_code.specs.declared.formula.Formula.TheVariants.{Const, Get, And, Or, Not}
use Rattle.plain_code.specs.declared.equation.Equation.{Equation}

-- a number other than 0 counts as true
abbrev pub is_true : ℤ → Bool
is_true (pos zero) = false
is_true _ = true

abbrev pub of_bool : Bool → ℤ
of_bool true = pos 1
of_bool false = pos 0

-- the number of a wire, or of a place of the frame
abbrev pub number_at : List ℤ → ℕ → ℤ
number_at ns k = slice_index_or ns k (pos 0)

abbrev pub is_on : List ℤ → ℕ → Bool
is_on ns k = is_true (number_at ns k)

abbrev pub formula_value : Formula → List ℤ → List ℤ → ℤ
formula_value (Const n) frame wires = n
formula_value (Get k) frame wires = number_at frame k
formula_value (And a b) frame wires = of_bool (is_on wires a && is_on wires b)
formula_value (Or a b) frame wires = of_bool (is_on wires a || is_on wires b)
formula_value (Not a) frame wires = of_bool (not (is_on wires a))

-- each wire has the value of its formula
abbrev pub Satisfies : List Equation → List ℤ → List ℤ → Type 0
Satisfies [] frame wires = Unit {0}
Satisfies (e ∷ es) frame wires =
    (number_at wires e.wire ≡ formula_value e.formula frame wires) × Satisfies es frame wires

abbrev pub ReadsBelow : ℕ → Formula → Type 0
ReadsBelow limit (Const n) = Unit {0}
ReadsBelow limit (Get k) = Unit {0}
ReadsBelow limit (And a b) = (a < limit) × (b < limit)
ReadsBelow limit (Or a b) = (a < limit) × (b < limit)
ReadsBelow limit (Not a) = a < limit

-- the first equation gives this wire, each other one the next, and each reads earlier wires alone
abbrev pub IsOrdered : ℕ → List Equation → Type 0
IsOrdered next [] = Unit {0}
IsOrdered next (e ∷ es) = (e.wire ≡ next) × ReadsBelow next e.formula × IsOrdered (next + 1) es

abbrev pub ReadsFrame : ℕ → Formula → Type 0
ReadsFrame size (Get k) = k < size
ReadsFrame size _ = Unit {0}

-- the equations read no place beyond a frame of this size
abbrev pub FitsFrame : ℕ → List Equation → Type 0
FitsFrame size [] = Unit {0}
FitsFrame size (e ∷ es) = ReadsFrame size e.formula × FitsFrame size es
