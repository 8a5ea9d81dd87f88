-- When the operands of equations lie in their kinds.
use Rattle.std.specs.Prelude.{◌≡◌, ◌≢◌, ◌⊎◌, ℕ, ◌<◌, ℤ, pos, true, Option, Some, None, List, [], ◌∷◌, length, slice_index_or}
use Rattle.java_values.specs.declared.kind.Kind.{Kind}
use Rattle.java_values.specs.declared.kind.Kind.TheVariants.{Boolean}
use Rattle.java_values.specs.declared.op.Op2.{Op2}
use Rattle.java_values.specs.declared.op.Op2.TheVariants.{Div, Rem}
use Rattle.java_values.specs.Kinds.{IsInRange, result_kind1, result_kind2, is_castable}
use Rattle.wire_code.specs.declared.formula.Formula.{Formula}
use Rattle.wire_code.specs.declared.formula.Formula.TheVariants.{Const, Get, And, Or, Not, Apply1, Apply2, Cast, Choose}
use Rattle.wire_code.specs.declared.equation.Equation.{Equation}
use Rattle.wire_code.specs.Numbering.{renamed_equations, IsGiven}

-- what is known of a wire's number: its kind, or the number itself
pub data Class : Type 0 where
  Of : (k : Kind) → Class
  Constant : (n : ℤ) → Class

abbrev pub InClass : Class → ℤ → Type 0
InClass (Of k) n = IsInRange k n
InClass (Constant m) n = n ≡ m

-- a wire of this class is an operand of this kind
abbrev pub Fits : Kind → Class → Type 0
Fits k (Of l) = l ≡ k
Fits k (Constant n) = IsInRange k n

-- the kind, where there is one
abbrev pub IsOf : Option Kind → Class → Type 0
IsOf None d = ⊥
IsOf (Some k) d = d ≡ Of k

-- some equation gives the wire by this formula
abbrev pub Gives : List Equation → ℕ → Formula → Type 0
Gives [] w f = ⊥
Gives (e ∷ es) w f = ((e.wire ≡ w) × (e.formula ≡ f)) ⊎ Gives es w f

-- the wire is given by a constant other than 0
pub record IsSafeDivisor (es : List Equation) (w : ℕ) : Type 0 where
  pub divisor : ℤ
  pub gives : Gives es w (Const divisor)
  pub not_zero : divisor ≢ pos 0

abbrev pub DividesSafely : Op2 → List Equation → ℕ → Type 0
DividesSafely Div es w = IsSafeDivisor es w
DividesSafely Rem es w = IsSafeDivisor es w
DividesSafely _ es w = Unit {0}

-- the class of a wire that is one of two: theirs where it is the same, and else that of one, a kind that the other fits
abbrev pub IsEither : Class → Class → Class → Type 0
IsEither (Of k) b d = Fits k b × (d ≡ Of k)
IsEither (Constant m) (Of k) d = IsInRange k m × (d ≡ Of k)
IsEither (Constant m) (Constant n) d = (m ≡ n) × (d ≡ Constant m)

-- The formula has this class, where the frame has these kinds, the equations are these, and the wires have these
-- classes.
abbrev pub HasClass : List Kind → List Equation → (ℕ → Class) → Formula → Class → Type 0
HasClass frame es c (Const n) d = d ≡ Constant n
HasClass frame es c (Get k) d = (k < length frame) × (d ≡ Of (slice_index_or frame k Boolean))
HasClass frame es c (And a b) d = Fits Boolean (c a) × Fits Boolean (c b) × (d ≡ Of Boolean)
HasClass frame es c (Or a b) d = Fits Boolean (c a) × Fits Boolean (c b) × (d ≡ Of Boolean)
HasClass frame es c (Not a) d = Fits Boolean (c a) × (d ≡ Of Boolean)
HasClass frame es c (Apply1 op k a) d = Fits k (c a) × IsOf (result_kind1 op k) d
HasClass frame es c (Apply2 op k l a b) d =
    Fits k (c a) × Fits l (c b) × DividesSafely op es b × IsOf (result_kind2 op k l) d
HasClass frame es c (Cast k l a) d = Fits k (c a) × (is_castable k l ≡ true) × (d ≡ Of l)
HasClass frame es c (Choose t a b) d = Fits Boolean (c t) × IsEither (c a) (c b) d

-- each of the last equations gives a wire of its class
abbrev pub HaveClasses : List Kind → List Equation → (ℕ → Class) → List Equation → Type 0
HaveClasses frame es c [] = Unit {0}
HaveClasses frame es c (e ∷ rest) =
    HasClass frame es c e.formula (c e.wire) × HaveClasses frame es c rest

-- Each wire has a class, over a frame of these kinds. The classes are determined where the equations are ordered.
pub record WellKinded (frame : List Kind) (es : List Equation) : Type 0 where
  pub classes : ℕ → Class
  pub each : HaveClasses frame es classes es

-- the renamed equations are well-kinded, and each wire has the class that it had under its old number
pub record KeepsClasses (frame : List Kind) (r : ℕ → ℕ) (es : List Equation) (c : ℕ → Class) : Type 0
  where
    pub well : WellKinded frame (renamed_equations r es)
    pub kept : (k : ℕ) → IsGiven es k → well.classes (r k) ≡ c k

-- one number of each kind
abbrev pub LieIn : List Kind → List ℤ → Type 0
LieIn [] [] = Unit {0}
LieIn [] (n ∷ ns) = ⊥
LieIn (k ∷ ks) [] = ⊥
LieIn (k ∷ ks) (n ∷ ns) = IsInRange k n × LieIn ks ns

-- the equations are well-kinded for kinds in which the numbers of this frame lie
pub record Suits (es : List Equation) (frame : List ℤ) : Type 0 where
  pub kinds : List Kind
  pub lie : LieIn kinds frame
  pub well : WellKinded kinds es
