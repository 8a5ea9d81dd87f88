-- What equations say of the values of wires. A frame and the values of wires are functions of the number of a
-- place or of a wire.
use Rattle.std.specs.Prelude.{◌≡◌, ℕ, ◌+◌, ◌<◌, ℤ, Bool, ◌&&◌, ◌||◌, not, cond, List, [], ◌∷◌, pos, slice_index_or}
use Rattle.java_values.specs.Arithmetic.{is_true, of_bool, applied1, applied2, cast_to}
use Rattle.wire_code.specs.declared.formula.Formula.{Formula}
use Rattle.wire_code.specs.declared.formula.Formula.TheVariants.{Const, Get, And, Or, Not, Apply1, Apply2, Cast, Choose}
use Rattle.wire_code.specs.declared.equation.Equation.{Equation}

-- a wire is true where its number isn't 0
abbrev pub is_on : (ℕ → ℤ) → ℕ → Bool
is_on w k = is_true (w k)

-- the value of a formula over this frame and these wires
abbrev pub formula_value : (ℕ → ℤ) → (ℕ → ℤ) → Formula → ℤ
formula_value f w (Const n) = n
formula_value f w (Get k) = f k
formula_value f w (And a b) = of_bool (is_on w a && is_on w b)
formula_value f w (Or a b) = of_bool (is_on w a || is_on w b)
formula_value f w (Not a) = of_bool (not (is_on w a))
formula_value f w (Apply1 op k a) = applied1 op k (w a)
formula_value f w (Apply2 op k l a b) = applied2 op k (w a) l (w b)
formula_value f w (Cast k l a) = cast_to l (w a)
formula_value f w (Choose c a b) = cond (is_on w c) (w a) (w b)

-- each wire has the value of its formula
abbrev pub Satisfies : (ℕ → ℤ) → (ℕ → ℤ) → List Equation → Type 0
Satisfies f w [] = Unit {0}
Satisfies f w (e ∷ es) = (w e.wire ≡ formula_value f w e.formula) × Satisfies f w es

-- the numbers of a list as such a function; those beyond it are 0
abbrev pub number_at : List ℤ → ℕ → ℤ
number_at ns k = slice_index_or ns k (pos 0)

-- this holds of each wire that the formula reads
abbrev pub EachRead : (ℕ → Type 0) → Formula → Type 0
EachRead P (Const n) = Unit {0}
EachRead P (Get k) = Unit {0}
EachRead P (And a b) = P a × P b
EachRead P (Or a b) = P a × P b
EachRead P (Not a) = P a
EachRead P (Apply1 op k a) = P a
EachRead P (Apply2 op k l a b) = P a × P b
EachRead P (Cast k l a) = P a
EachRead P (Choose c a b) = P c × P a × P b

-- the formula reads wires below this one alone
abbrev pub ReadsBelow : ℕ → Formula → Type 0
ReadsBelow limit g = EachRead (λ k. k < limit) g

-- the first equation gives this wire, each other one the next, and each reads earlier wires alone
abbrev pub IsOrdered : ℕ → List Equation → Type 0
IsOrdered next [] = Unit {0}
IsOrdered next (e ∷ es) = (e.wire ≡ next) × ReadsBelow next e.formula × IsOrdered (next + 1) es
