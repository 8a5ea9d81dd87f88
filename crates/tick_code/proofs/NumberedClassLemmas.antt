-- Classes of wires that are numbered anew.
use Rattle.std.proofs.Common.{◌≡◌, ℕ, pos, List, [], ◌∷◌, get_or, refl, sym, ap, ◌∙◌, subst, arith, inl, inr}
use Rattle.java_values.specs.declared.kind.Kind.{Kind}
use Rattle.java_values.specs.declared.kind.Kind.TheVariants.{Boolean}
use Rattle.java_values.specs.declared.op.Op2.{Op2}
use Rattle.java_values.specs.declared.op.Op2.TheVariants.{Div, Rem}
use Rattle.wire_code.specs.declared.formula.Formula.{Formula}
use Rattle.wire_code.specs.declared.formula.Formula.TheVariants.{Const, Get, And, Or, Not, Apply1, Apply2, Cast, Choose}
use Rattle.wire_code.specs.declared.equation.Equation.{Equation}
use Rattle.wire_code.specs.Formulas.{EachRead}
use Rattle.wire_code.specs.Numbering.{renamed, renamed_equations, IsNumbering, IsGiven, ReadsGiven}
use Rattle.wire_code.proofs.EquationLemmas.{each_read}
use Rattle.wire_code.proofs.NumberingLemmas.{place_of, given_by_later}
use Rattle.tick_code.specs.WellKinded.{Class, Fits, Gives, IsSafeDivisor, DividesSafely, IsEither, HasClass, HaveClasses, WellKinded, KeepsClasses}

no_equation : Equation
no_equation = record { wire = 0; formula = Const (pos 0) }

-- the class of the wire that the equation of this place gives
class_at : (ℕ → Class) → List Equation → ℕ → Class
class_at c es i = c (get_or es i no_equation).wire

class_kept : (c : ℕ → Class) (r : ℕ → ℕ) (es : List Equation) → IsNumbering r 0 es → (k : ℕ) → IsGiven es k → class_at c es (r k) ≡ c k
unfolding class_at
class_kept c r es h k given =
    let p = place_of r 0 es no_equation k h given in
    let s : r k ≡ p.0 = omega (arith, p.1) in
    ap (λ i. c (get_or es i no_equation).wire) s ∙ ap c p.2

gives_renamed : (r : ℕ → ℕ) (es : List Equation) (w : ℕ) (g : Formula) → Gives es w g → Gives (renamed_equations r es) (r w) (renamed r g)
gives_renamed r [] w g none = absurd none
gives_renamed r (e ∷ es) w g (inl h) = inl (ap r h.0, ap (renamed r) h.1)
gives_renamed r (e ∷ es) w g (inr h) = inr (gives_renamed r es w g h)

safe_renamed : (r : ℕ → ℕ) (es : List Equation) (w : ℕ) → IsSafeDivisor es w → IsSafeDivisor (renamed_equations r es) (r w)
safe_renamed r es w h = record {
  divisor = h.divisor;
  gives = gives_renamed r es w (Const h.divisor) h.gives;
  not_zero = h.not_zero;
}

divides_renamed : (op : Op2) (r : ℕ → ℕ) (es : List Equation) (w : ℕ) → DividesSafely op es w → DividesSafely op (renamed_equations r es) (r w)
divides_renamed Div r es w h = safe_renamed r es w h
divides_renamed Rem r es w h = safe_renamed r es w h
divides_renamed _ r es w h = tt

either_renamed : (a b d a' b' : Class) → a' ≡ a → b' ≡ b → IsEither a b d → IsEither a' b' d
either_renamed a b d a' b' left right h =
    subst (λ x. IsEither x b' d) (sym left) (subst (λ y. IsEither a y d) (sym right) h)

fits_renamed : (k : Kind) (a b : Class) → b ≡ a → Fits k a → Fits k b
fits_renamed k a b same h = subst (Fits k) (sym same) h

class_renamed : (g : Formula) (frame : List Kind) (r : ℕ → ℕ) (es : List Equation) (c b : ℕ → Class) (d : Class) → ((k : ℕ) → IsGiven es k → b (r k) ≡ c k) → EachRead (IsGiven es) g → HasClass frame es c g d → HasClass frame (renamed_equations r es) b (renamed r g) d
class_renamed (Const n) frame r es c b d kept reads h = h
class_renamed (Get k) frame r es c b d kept reads h = h
class_renamed (And x y) frame r es c b d kept reads h = (
  fits_renamed Boolean (c x) (b (r x)) (kept x reads.0) h.0,
  fits_renamed Boolean (c y) (b (r y)) (kept y reads.1) h.1,
  h.2,
)
class_renamed (Or x y) frame r es c b d kept reads h = (
  fits_renamed Boolean (c x) (b (r x)) (kept x reads.0) h.0,
  fits_renamed Boolean (c y) (b (r y)) (kept y reads.1) h.1,
  h.2,
)
class_renamed (Not x) frame r es c b d kept reads h = (fits_renamed Boolean (c x) (b (r x)) (kept x reads) h.0, h.1)
class_renamed (Apply1 op k x) frame r es c b d kept reads h = (fits_renamed k (c x) (b (r x)) (kept x reads) h.0, h.1)
class_renamed (Apply2 op k l x y) frame r es c b d kept reads h = (
  fits_renamed k (c x) (b (r x)) (kept x reads.0) h.0,
  fits_renamed l (c y) (b (r y)) (kept y reads.1) h.1,
  divides_renamed op r es y h.2,
  h.3,
)
class_renamed (Cast k l x) frame r es c b d kept reads h =
    (fits_renamed k (c x) (b (r x)) (kept x reads) h.0, h.1, h.2)
class_renamed (Choose t x y) frame r es c b d kept reads h = (
  fits_renamed Boolean (c t) (b (r t)) (kept t reads.0) h.0,
  either_renamed (c x) (c y) d (b (r x)) (b (r y)) (kept x reads.1) (kept y reads.2) h.1,
)

classes_renamed : (frame : List Kind) (r : ℕ → ℕ) (all : List Equation) (c b : ℕ → Class) (before es : List Equation) → ((k : ℕ) → IsGiven all k → b (r k) ≡ c k) → ReadsGiven before es → ((k : ℕ) → IsGiven before k → IsGiven all k) → ((k : ℕ) → IsGiven es k → IsGiven all k) → HaveClasses frame all c es → HaveClasses frame (renamed_equations r all) b (renamed_equations r es)
classes_renamed frame r all c b before [] kept reads front back h = tt
classes_renamed frame r all c b before (e ∷ es) kept reads front back h =
    let own = class_renamed e.formula frame r all c b (c e.wire) kept (each_read e.formula (IsGiven before) (IsGiven all) front reads.0) h.0 in (
      subst (λ d. HasClass frame (renamed_equations r all) b (renamed r e.formula) d) (sym (kept e.wire (back e.wire (inl refl)))) own,
      classes_renamed frame r all c b (e ∷ before) es kept reads.1 (given_by_later (IsGiven all) before es e front back) (λ k given. back k (inr given)) h.1,
    )

pub numbered_well_kinded : (frame : List Kind) (r : ℕ → ℕ) (es : List Equation) → IsNumbering r 0 es → ReadsGiven [] es → (well : WellKinded frame es) → KeepsClasses frame r es well.classes
numbered_well_kinded frame r es h g well =
    let kept = class_kept well.classes r es h in
    record {
      well = record {
        classes = class_at well.classes es;
        each = classes_renamed frame r es well.classes (class_at well.classes es) [] es kept g (λ k none. absurd none) (λ k given. given) well.each;
      };
      kept = kept;
    }
