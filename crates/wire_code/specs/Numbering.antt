-- Wires numbered anew, by the places of their equations. A renaming of wires is a function of a
-- wire's number.
use Rattle.std.specs.Prelude.{◌≡◌, ◌⊎◌, ℕ, ◌+◌, ℤ, List, [], ◌∷◌, map}
use Rattle.wire_code.specs.declared.formula.Formula.{Formula}
use Rattle.wire_code.specs.declared.formula.Formula.TheVariants.{Const, Get, And, Or, Not, Apply1, Apply2, Cast, Choose}
use Rattle.wire_code.specs.declared.equation.Equation.{Equation}
use Rattle.wire_code.specs.Formulas.{Satisfies, EachRead}

-- the same formula of the renamed wires
abbrev pub renamed : (ℕ → ℕ) → Formula → Formula
renamed r (Const n) = Const n
renamed r (Get k) = Get k
renamed r (And a b) = And (r a) (r b)
renamed r (Or a b) = Or (r a) (r b)
renamed r (Not a) = Not (r a)
renamed r (Apply1 op k a) = Apply1 op k (r a)
renamed r (Apply2 op k l a b) = Apply2 op k l (r a) (r b)
renamed r (Cast k l a) = Cast k l (r a)
renamed r (Choose c a b) = Choose (r c) (r a) (r b)

abbrev pub renamed_equation : (ℕ → ℕ) → Equation → Equation
renamed_equation r e = record { wire = r e.wire; formula = renamed r e.formula }

abbrev pub renamed_equations : (ℕ → ℕ) → List Equation → List Equation
renamed_equations r es = map (renamed_equation r) es

-- the first equation's wire has this new number, each other one's the next
abbrev pub IsNumbering : (ℕ → ℕ) → ℕ → List Equation → Type 0
IsNumbering r next [] = Unit {0}
IsNumbering r next (e ∷ es) = (r e.wire ≡ next) × IsNumbering r (next + 1) es

-- some equation gives the wire
abbrev pub IsGiven : List Equation → ℕ → Type 0
IsGiven [] w = ⊥
IsGiven (e ∷ es) w = (e.wire ≡ w) ⊎ IsGiven es w

-- each equation reads wires alone that an earlier one gives, or one of those before them all
abbrev pub ReadsGiven : List Equation → List Equation → Type 0
ReadsGiven before [] = Unit {0}
ReadsGiven before (e ∷ es) = EachRead (IsGiven before) e.formula × ReadsGiven (e ∷ before) es

-- no two equations give one wire
abbrev pub GivesOnce : List Equation → Type 0
GivesOnce [] = Unit {0}
GivesOnce (e ∷ es) = (IsGiven es e.wire → ⊥) × GivesOnce es

-- a numbering from 0 of equations that read given wires alone
pub record Numbered (es : List Equation) : Type 0 where
  pub renaming : ℕ → ℕ
  pub numbers : IsNumbering renaming 0 es
  pub reads : ReadsGiven [] es

-- some numbering from 0
pub record HasNumbering (es : List Equation) : Type 0 where
  pub renaming : ℕ → ℕ
  pub numbers : IsNumbering renaming 0 es

-- values of the new wires that satisfy the renamed equations, where each given wire has kept its
-- value
pub record Carries (r : ℕ → ℕ) (es : List Equation) (f w : ℕ → ℤ) : Type 0 where
  pub values : ℕ → ℤ
  pub kept : (k : ℕ) → IsGiven es k → values (r k) ≡ w k
  pub satisfied : Satisfies f values (renamed_equations r es)
