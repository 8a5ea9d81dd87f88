-- Equations whose wires are numbered anew.
use Rattle.std.proofs.Common.{◌≡◌, ℕ, suc, ◌+◌, ◌<◌, ℤ, pos, cond, List, [], ◌∷◌, get_or, eqb, refl, sym, ap, ◌∙◌, subst, arith, inl, inr}
use Rattle.std.proofs.lemmas.Bool.{eq-eqb, ne_eqb}
use Rattle.wire_code.specs.declared.formula.Formula.{Formula}
use Rattle.wire_code.specs.declared.formula.Formula.TheVariants.{Const, Get, And, Or, Not, Apply1, Apply2, Cast, Choose}
use Rattle.wire_code.specs.declared.equation.Equation.{Equation}
use Rattle.wire_code.specs.Formulas.{IsOrdered, Satisfies, EachRead, ReadsBelow, formula_value}
use Rattle.wire_code.specs.Numbering.{renamed, renamed_equations, IsNumbering, IsGiven, ReadsGiven, GivesOnce, HasNumbering, Carries}
use Rattle.wire_code.proofs.EquationLemmas.{value_of_reads}

-- the new names of what a formula reads are below a limit where those of given wires are
pub renamed_below : (g : Formula) (r : ℕ → ℕ) (P : ℕ → Type 0) (n : ℕ) → ((k : ℕ) → P k → r k < n) → EachRead P g → ReadsBelow n (renamed r g)
renamed_below (Const m) r P n low h = tt
renamed_below (Get k) r P n low h = tt
renamed_below (And a b) r P n low h = (low a h.0, low b h.1)
renamed_below (Or a b) r P n low h = (low a h.0, low b h.1)
renamed_below (Not a) r P n low h = low a h
renamed_below (Apply1 op k a) r P n low h = low a h
renamed_below (Apply2 op k l a b) r P n low h = (low a h.0, low b h.1)
renamed_below (Cast k l a) r P n low h = low a h
renamed_below (Choose c a b) r P n low h = (low c h.0, low a h.1, low b h.2)

one_below : (r : ℕ → ℕ) (n : ℕ) (before : List Equation) (e : Equation) → r e.wire ≡ n → ((k : ℕ) → IsGiven before k → r k < n) → (k : ℕ) → IsGiven (e ∷ before) k → r k < n + 1
one_below r n before e own low k (inl same) = let s : r k ≡ n = ap r (sym same) ∙ own in omega (arith, s)
one_below r n before e own low k (inr given) = omega (arith, low k given)

pub numbered_ordered : (r : ℕ → ℕ) (n : ℕ) (before es : List Equation) → IsNumbering r n es → ReadsGiven before es → ((k : ℕ) → IsGiven before k → r k < n) → IsOrdered n (renamed_equations r es)
numbered_ordered r n before [] h g low = tt
numbered_ordered r n before (e ∷ es) h g low = (
  h.0,
  renamed_below e.formula r (IsGiven before) n low g.0,
  numbered_ordered r (n + 1) (e ∷ before) es h.1 g.1 (one_below r n before e h.0 low),
)

pub ordered_from_zero : (r : ℕ → ℕ) (es : List Equation) → IsNumbering r 0 es → ReadsGiven [] es → IsOrdered 0 (renamed_equations r es)
ordered_from_zero r es h g = numbered_ordered r 0 [] es h g (λ k given. absurd given)

-- a renamed formula has the value of the formula over the old names
pub renamed_value : (g : Formula) (r : ℕ → ℕ) (f v : ℕ → ℤ) → formula_value f v (renamed r g) ≡ formula_value f (λ k. v (r k)) g
renamed_value (Const n) r f v = refl
renamed_value (Get k) r f v = refl
renamed_value (And a b) r f v = refl
renamed_value (Or a b) r f v = refl
renamed_value (Not a) r f v = refl
renamed_value (Apply1 op k a) r f v = refl
renamed_value (Apply2 op k l a b) r f v = refl
renamed_value (Cast k l a) r f v = refl
renamed_value (Choose c a b) r f v = refl

pub says_no_more : (r : ℕ → ℕ) (f v : ℕ → ℤ) (es : List Equation) → Satisfies f v (renamed_equations r es) → Satisfies f (λ k. v (r k)) es
says_no_more r f v [] h = tt
says_no_more r f v (e ∷ es) h = (h.0 ∙ renamed_value e.formula r f v, says_no_more r f v es h.1)

no_equation : Equation
no_equation = record { wire = 0; formula = Const (pos 0) }

-- the equation at the place of a given wire's number gives the wire
pub place_of : (r : ℕ → ℕ) (n : ℕ) (es : List Equation) (d : Equation) (k : ℕ) → IsNumbering r n es → IsGiven es k → (i : ℕ) × (r k ≡ n + i) × ((get_or es i d).wire ≡ k)
place_of r n [] d k h given = absurd given
place_of r n (e ∷ es) d k h (inl same) = let s : n ≡ n + 0 = omega arith in (0, ap r (sym same) ∙ h.0 ∙ s, same)
place_of r n (e ∷ es) d k h (inr given) =
    let p = place_of r (n + 1) es d k h.1 given in
    let s : n + 1 + p.0 ≡ n + suc p.0 = omega arith in
    (suc p.0, p.1 ∙ s, p.2)

-- the values of the places
carried : (ℕ → ℤ) → List Equation → ℕ → ℤ
carried w es i = w (get_or es i no_equation).wire

carried_kept : (r : ℕ → ℕ) (w : ℕ → ℤ) (es : List Equation) → IsNumbering r 0 es → (k : ℕ) → IsGiven es k → carried w es (r k) ≡ w k
unfolding carried
carried_kept r w es h k given =
    let p = place_of r 0 es no_equation k h given in
    let s : r k ≡ p.0 = omega (arith, p.1) in
    ap (λ i. w (get_or es i no_equation).wire) s ∙ ap w p.2

-- what holds of wires given before, and from here on
pub given_by_later : (P : ℕ → Type 0) (before es : List Equation) (e : Equation) → ((k : ℕ) → IsGiven before k → P k) → ((k : ℕ) → IsGiven (e ∷ es) k → P k) → (k : ℕ) → IsGiven (e ∷ before) k → P k
given_by_later P before es e front back k (inl same) = back k (inl same)
given_by_later P before es e front back k (inr given) = front k given

renamed_satisfied : (r : ℕ → ℕ) (f w v : ℕ → ℤ) (before es : List Equation) → ReadsGiven before es → ((k : ℕ) → IsGiven before k → v (r k) ≡ w k) → ((k : ℕ) → IsGiven es k → v (r k) ≡ w k) → Satisfies f w es → Satisfies f v (renamed_equations r es)
renamed_satisfied r f w v before [] g front back h = tt
renamed_satisfied r f w v before (e ∷ es) g front back h = (
  back e.wire (inl refl) ∙ h.0
      ∙ sym (value_of_reads e.formula (IsGiven before) f w (λ k. v (r k)) g.0 front)
      ∙ sym (renamed_value e.formula r f v),
  renamed_satisfied r f w v (e ∷ before) es g.1 (given_by_later (λ k. v (r k) ≡ w k) before es e front back) (λ k given. back k (inr given)) h.1,
)

pub says_no_less : (r : ℕ → ℕ) (f w : ℕ → ℤ) (es : List Equation) → IsNumbering r 0 es → ReadsGiven [] es → Satisfies f w es → Carries r es f w
says_no_less r f w es h g s = record {
  values = carried w es;
  kept = carried_kept r w es h;
  satisfied =
      renamed_satisfied r f w (carried w es) [] es g (λ k given. absurd given) (carried_kept r w es h) s;
}

pub given_once : (r : ℕ → ℕ) (n : ℕ) (es : List Equation) → IsNumbering r n es → GivesOnce es
given_once r n [] h = tt
given_once r n (e ∷ es) h = (
  λ given. let p = place_of r (n + 1) es no_equation e.wire h.1 given in omega (arith, p.1, h.0),
  given_once r (n + 1) es h.1,
)

-- the place of the first equation that gives a wire
first_place : ℕ → List Equation → ℕ → ℕ
first_place n [] k = n
first_place n (e ∷ es) k = cond (eqb e.wire k) n (first_place (n + 1) es k)

pub numbering_like : (r s : ℕ → ℕ) (n : ℕ) (es : List Equation) → ((k : ℕ) → IsGiven es k → s k ≡ r k) → IsNumbering r n es → IsNumbering s n es
numbering_like r s n [] same h = tt
numbering_like r s n (e ∷ es) same h =
    (same e.wire (inl refl) ∙ h.0, numbering_like r s (n + 1) es (λ k given. same k (inr given)) h.1)

first_here : (n : ℕ) (e : Equation) (es : List Equation) → first_place n (e ∷ es) e.wire ≡ n
unfolding first_place
first_here n e es = ap (λ b. cond b n (first_place (n + 1) es e.wire)) (eq-eqb e.wire e.wire refl)

first_later : (n : ℕ) (e : Equation) (es : List Equation) (k : ℕ) → (IsGiven es e.wire → ⊥) → IsGiven es k → first_place n (e ∷ es) k ≡ first_place (n + 1) es k
unfolding first_place
first_later n e es k once given =
    ap (λ b. cond b n (first_place (n + 1) es k)) (ne_eqb e.wire k (λ same. once (subst (IsGiven es) (sym same) given)))

numbered_by_place : (n : ℕ) (es : List Equation) → GivesOnce es → IsNumbering (first_place n es) n es
numbered_by_place n [] once = tt
numbered_by_place n (e ∷ es) once = (
  first_here n e es,
  numbering_like (first_place (n + 1) es) (first_place n (e ∷ es)) (n + 1) es (λ k given. first_later n e es k once.0 given) (numbered_by_place (n + 1) es once.1),
)

pub once_numbered : (es : List Equation) → GivesOnce es → HasNumbering es
once_numbered es once = record { renaming = first_place 0 es; numbers = numbered_by_place 0 es once }
