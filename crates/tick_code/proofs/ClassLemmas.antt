-- Wires that satisfy well-kinded equations lie in their classes, and so do their operands.
use Rattle.std.proofs.Common.{rules, ◌≡◌, ◌≢◌, ℕ, zero, suc, ◌+◌, ◌<◌, ℤ, pos, Bool, true, false, ◌&&◌, ◌||◌, not, cond, Option, Some, None, IsSome, List, [], ◌∷◌, length, take, get_or, refl, sym, ap, ◌∙◌, subst, arith, inl, inr}
use Rattle.java_values.specs.declared.kind.Kind.{Kind}
use Rattle.java_values.specs.declared.kind.Kind.TheVariants.{Boolean}
use Rattle.java_values.specs.declared.op.Op2.{Op2}
use Rattle.java_values.specs.declared.op.Op2.TheVariants as op2
use Rattle.java_values.specs.Kinds.{IsInRange, result_kind1, result_kind2}
use Rattle.java_values.specs.Arithmetic.{of_bool, applied1, applied2, cast_to, HasDivisor}
use Rattle.java_values.proofs.InRangeLemmas.{wrapped_range}
use Rattle.wire_code.specs.declared.formula.Formula.{Formula}
use Rattle.wire_code.specs.declared.formula.Formula.TheVariants.{Const, Get, And, Or, Not, Apply1, Apply2, Cast, Choose}
use Rattle.wire_code.specs.declared.equation.Equation.{Equation}
use Rattle.wire_code.specs.Formulas.{Satisfies, IsOrdered, ReadsBelow, formula_value, number_at, is_on}
use Rattle.wire_code.proofs.SolutionLemmas.{less_or_not, step_below}
use Rattle.tick_code.specs.WellKinded.{Class, Of, Constant, InClass, Fits, IsOf, Gives, IsSafeDivisor, DividesSafely, IsEither, HasClass, HaveClasses, LieIn}
use Rattle.tick_code.specs.Operands.{HasOperands}
use Rattle.tick_code.proofs.RangeLemmas.{truth_range}
use Rattle.tick_code.proofs.ResultLemmas.{applied1_range, applied2_range}

fits_range : (k : Kind) (d : Class) (n : ℤ) → Fits k d → InClass d n → IsInRange k n
fits_range k (Of l) n e h = subst (λ x. IsInRange x n) e h
fits_range k (Constant m) n r e = subst (λ x. IsInRange k x) (sym e) r

frame_range : (kinds : List Kind) (ns : List ℤ) (k : ℕ) → LieIn kinds ns → k < length kinds → IsInRange (get_or kinds k Boolean) (get_or ns k (pos 0))
frame_range [] [] k h lt = absurd (omega arith)
frame_range [] (n ∷ ns) k h lt = absurd h
frame_range (x ∷ xs) [] k h lt = absurd h
frame_range (x ∷ xs) (n ∷ ns) zero h lt = h.0
frame_range (x ∷ xs) (n ∷ ns) (suc k) h lt = frame_range xs ns k h.1 (omega arith)

pub lie_length : (kinds : List Kind) (ns : List ℤ) → LieIn kinds ns → length kinds ≡ length ns
lie_length [] [] h = refl
lie_length [] (n ∷ ns) h = absurd h
lie_length (x ∷ xs) [] h = absurd h
lie_length (x ∷ xs) (n ∷ ns) h = ap suc (lie_length xs ns h.1)

in_kind : (d : Class) (k : Kind) (n : ℤ) → d ≡ Of k → IsInRange k n → InClass d n
in_kind d k n e h = subst (λ x. InClass x n) (sym e) h

in_option : (o : Option Kind) (d : Class) (n : ℤ) → IsOf o d → ((m : Kind) → o ≡ Some m → IsInRange m n) → InClass d n
in_option None d n h r = absurd h
in_option (Some k) d n h r = in_kind d k n h (r k refl)

cond_in : (t : Bool) (d : Class) (m n : ℤ) → InClass d m → InClass d n → InClass d (cond t m n)
cond_in true d m n h g = h
cond_in false d m n h g = g

either_first : (x y d : Class) (n : ℤ) → IsEither x y d → InClass x n → InClass d n
either_first (Of k) y d n e h = in_kind d k n e.1 h
either_first (Constant m) (Of k) d n e h = in_kind d k n e.1 (subst (λ z. IsInRange k z) (sym h) e.0)
either_first (Constant m) (Constant l) d n e h = subst (λ x. InClass x n) (sym e.1) h

either_second : (x y d : Class) (n : ℤ) → IsEither x y d → InClass y n → InClass d n
either_second (Of k) y d n e h = in_kind d k n e.1 (fits_range k y n e.0 h)
either_second (Constant m) (Of k) d n e h = in_kind d k n e.1 h
either_second (Constant m) (Constant l) d n e h = subst (λ x. InClass x n) (sym e.1) (h ∙ sym e.0)

-- the value of a formula lies in its class, where the wires that it reads lie in theirs
pub value_in_class : (kinds : List Kind) (ns : List ℤ) (all : List Equation) (c : ℕ → Class) (w : ℕ → ℤ) (g : Formula) (d : Class) (n : ℕ) → LieIn kinds ns → HasClass kinds all c g d → ReadsBelow n g → ((j : ℕ) → j < n → InClass (c j) (w j)) → InClass d (formula_value (number_at ns) w g)
value_in_class kinds ns all c w (Const m) d n lie h r below = subst (λ x. InClass x m) (sym h) refl
value_in_class kinds ns all c w (Get k) d n lie h r below = in_kind d (get_or kinds k Boolean) (get_or ns k (pos 0)) h.1 (frame_range kinds ns k lie h.0)
value_in_class kinds ns all c w (And a b) d n lie h r below = in_kind d Boolean (of_bool (is_on w a && is_on w b)) h.2 (truth_range (is_on w a && is_on w b))
value_in_class kinds ns all c w (Or a b) d n lie h r below = in_kind d Boolean (of_bool (is_on w a || is_on w b)) h.2 (truth_range (is_on w a || is_on w b))
value_in_class kinds ns all c w (Not a) d n lie h r below = in_kind d Boolean (of_bool (not (is_on w a))) h.1 (truth_range (not (is_on w a)))
value_in_class kinds ns all c w (Apply1 op k a) d n lie h r below =
    in_option (result_kind1 op k) d (applied1 op k (w a)) h.1 (λ m e. applied1_range op k m (w a) (fits_range k (c a) (w a) h.0 (below a r)) e)
value_in_class kinds ns all c w (Apply2 op k l a b) d n lie h r below =
    let left = fits_range k (c a) (w a) h.0 (below a r.0) in
    let right = fits_range l (c b) (w b) h.1 (below b r.1) in
    in_option (result_kind2 op k l) d (applied2 op k (w a) l (w b)) h.3 (λ m e. applied2_range op k l m (w a) (w b) left right e)
value_in_class kinds ns all c w (Cast k l a) d n lie h r below = in_kind d l (cast_to l (w a)) h.2 (wrapped_range l (w a))
value_in_class kinds ns all c w (Choose t a b) d n lie h r below =
    cond_in (is_on w t) d (w a) (w b) (either_first (c a) (c b) d (w a) h.1 (below a r.1)) (either_second (c a) (c b) d (w b) h.1 (below b r.2))

-- each wire that satisfies its equation lies in its class
pub wires_in_classes : (kinds : List Kind) (ns : List ℤ) (all : List Equation) (c : ℕ → Class) (w : ℕ → ℤ) (es : List Equation) (n : ℕ) → LieIn kinds ns → IsOrdered n es → HaveClasses kinds all c es → Satisfies (number_at ns) w es → ((j : ℕ) → j < n → InClass (c j) (w j)) → (j : ℕ) → j < n + length es → InClass (c j) (w j)
wires_in_classes kinds ns all c w [] n lie o h s below j lt = below j (omega arith)
wires_in_classes kinds ns all c w (e ∷ es) n lie o h s below j lt =
    let value = value_in_class kinds ns all c w e.formula (c e.wire) n lie h.0 o.1 below in
    let at = subst (λ x. InClass (c e.wire) x) (sym s.0) value in
    let own = subst (λ k. InClass (c k) (w k)) o.0 at in
    wires_in_classes kinds ns all c w es (n + 1) lie o.2 h.1 s.1 (λ i lti. step_below (λ k. InClass (c k) (w k)) n below own i (less_or_not i n) lti) j (omega arith)

gives_class : (kinds : List Kind) (all : List Equation) (c : ℕ → Class) (es : List Equation) (b : ℕ) (m : ℤ) → HaveClasses kinds all c es → Gives es b (Const m) → c b ≡ Constant m
gives_class kinds all c [] b m h g = absurd g
gives_class kinds all c (e ∷ es) b m h (inl g) =
    let k = subst (λ f. HasClass kinds all c f (c e.wire)) g.1 h.0 in
    subst (λ x. c x ≡ Constant m) g.0 k
gives_class kinds all c (e ∷ es) b m h (inr g) = gives_class kinds all c es b m h.1 g

not_zero : (kinds : List Kind) (all : List Equation) (c : ℕ → Class) (w : ℕ → ℤ) (b : ℕ) → HaveClasses kinds all c all → IsSafeDivisor all b → InClass (c b) (w b) → w b ≢ pos 0
not_zero kinds all c w b h s own =
    let class = gives_class kinds all c all b s.divisor h s.gives in
    let is : w b ≡ s.divisor = subst (λ x. InClass x (w b)) class own in
    λ e. s.not_zero (sym is ∙ e)

divides : (op : Op2) (kinds : List Kind) (all : List Equation) (c : ℕ → Class) (w : ℕ → ℤ) (b : ℕ) → HaveClasses kinds all c all → DividesSafely op all b → InClass (c b) (w b) → HasDivisor op (w b)
divides op2.Div kinds all c w b h s own = not_zero kinds all c w b h s own
divides op2.Rem kinds all c w b h s own = not_zero kinds all c w b h s own
divides op2.Mul kinds all c w b h s own = tt
divides op2.Add kinds all c w b h s own = tt
divides op2.Sub kinds all c w b h s own = tt
divides op2.Shl kinds all c w b h s own = tt
divides op2.Shr kinds all c w b h s own = tt
divides op2.Ushr kinds all c w b h s own = tt
divides op2.Less kinds all c w b h s own = tt
divides op2.LessEq kinds all c w b h s own = tt
divides op2.Greater kinds all c w b h s own = tt
divides op2.GreaterEq kinds all c w b h s own = tt
divides op2.Equal kinds all c w b h s own = tt
divides op2.NotEqual kinds all c w b h s own = tt
divides op2.And kinds all c w b h s own = tt
divides op2.Xor kinds all c w b h s own = tt
divides op2.Or kinds all c w b h s own = tt
divides op2.Both kinds all c w b h s own = tt
divides op2.Either kinds all c w b h s own = tt

is_some : (o : Option Kind) (d : Class) → IsOf o d → IsSome o
is_some None d h = absurd h
is_some (Some k) d h = search rules

-- the operands of a formula lie in their kinds
pub operands_lie : (kinds : List Kind) (ns : List ℤ) (all : List Equation) (c : ℕ → Class) (w : ℕ → ℤ) (g : Formula) (d : Class) (n : ℕ) → LieIn kinds ns → HaveClasses kinds all c all → HasClass kinds all c g d → ReadsBelow n g → ((j : ℕ) → j < n → InClass (c j) (w j)) → HasOperands (length ns) w g
operands_lie kinds ns all c w (Const m) d n lie whole h r below = tt
operands_lie kinds ns all c w (Get k) d n lie whole h r below = let l = lie_length kinds ns lie in omega (arith, l, h.0)
operands_lie kinds ns all c w (And a b) d n lie whole h r below = tt
operands_lie kinds ns all c w (Or a b) d n lie whole h r below = tt
operands_lie kinds ns all c w (Not a) d n lie whole h r below = tt
operands_lie kinds ns all c w (Apply1 op k a) d n lie whole h r below = (fits_range k (c a) (w a) h.0 (below a r), is_some (result_kind1 op k) d h.1)
operands_lie kinds ns all c w (Apply2 op k l a b) d n lie whole h r below = (
  fits_range k (c a) (w a) h.0 (below a r.0),
  fits_range l (c b) (w b) h.1 (below b r.1),
  is_some (result_kind2 op k l) d h.3,
  divides op kinds all c w b whole h.2 (below b r.1),
)
operands_lie kinds ns all c w (Cast k l a) d n lie whole h r below = (fits_range k (c a) (w a) h.0 (below a r), h.1)
operands_lie kinds ns all c w (Choose t a b) d n lie whole h r below = tt

pub classes_at : (kinds : List Kind) (all : List Equation) (c : ℕ → Class) (es : List Equation) (k : ℕ) (d : Equation) → HaveClasses kinds all c es → k < length es → HasClass kinds all c (get_or es k d).formula (c (get_or es k d).wire)
classes_at kinds all c [] k d h lt = absurd (omega arith)
classes_at kinds all c (e ∷ es) zero d h lt = h.0
classes_at kinds all c (e ∷ es) (suc k) d h lt = classes_at kinds all c es k d h.1 (omega arith)

pub classes_take : (kinds : List Kind) (all : List Equation) (c : ℕ → Class) (es : List Equation) (k : ℕ) → HaveClasses kinds all c es → HaveClasses kinds all c (take k es)
classes_take kinds all c [] zero h = tt
classes_take kinds all c [] (suc k) h = tt
classes_take kinds all c (e ∷ es) zero h = tt
classes_take kinds all c (e ∷ es) (suc k) h = (h.0, classes_take kinds all c es k h.1)
