-- A wire that is written does not change what the earlier equations say.
use Rattle.std.proofs.Common.{◌≡◌, ◌≢◌, ℕ, zero, suc, ◌+◌, ◌<◌, ◌≤◌, ℤ, pos, ◌&&◌, ◌||◌, not, List, [], ◌∷◌, ◌++◌, length, take, get_or, refl, sym, ap, ◌∙◌, subst, arith, get_or-set_other, get_or-set_same}
use Rattle.std.proofs.Math.ListN.{set}
use Rattle.std.proofs.Math.Seq.{take-suc}
use Rattle.plain_code.specs.declared.formula.Formula.{Formula}
use Rattle.plain_code.specs.declared.formula.Formula.TheVariants.{Const, Get, And, Or, Not}
use Rattle.plain_code.specs.declared.equation.Equation.{Equation}
use Rattle.plain_code.specs.Formulas.{IsOrdered, Satisfies, FitsFrame, ReadsBelow, ReadsFrame, is_true, of_bool, is_on, number_at, formula_value}

pub ordered_at : (es : List Equation) (n k : ℕ) (d : Equation) → IsOrdered n es → k < length es → ((get_or es k d).wire ≡ n + k) × ReadsBelow (n + k) (get_or es k d).formula
ordered_at [] n k d h lt = absurd (omega arith)
ordered_at (e ∷ es) n zero d h lt = let s : n + 0 ≡ n = omega arith in (h.0 ∙ sym s, subst (λ m. ReadsBelow m e.formula) (sym s) h.1)
ordered_at (e ∷ es) n (suc k) d h lt =
    let s : n + 1 + k ≡ n + suc k = omega arith in
    let r = ordered_at es (n + 1) k d h.2 (omega arith) in
    (r.0 ∙ s, subst (λ m. ReadsBelow m (get_or es k d).formula) s r.1)

pub ordered_take : (es : List Equation) (n k : ℕ) → IsOrdered n es → IsOrdered n (take k es)
ordered_take [] n zero h = tt
ordered_take [] n (suc k) h = tt
ordered_take (e ∷ es) n zero h = tt
ordered_take (e ∷ es) n (suc k) h = (h.0, h.1, ordered_take es (n + 1) k h.2)

pub fits_at : (es : List Equation) (size k : ℕ) (d : Equation) → FitsFrame size es → k < length es → ReadsFrame size (get_or es k d).formula
fits_at [] size k d h lt = absurd (omega arith)
fits_at (e ∷ es) size zero d h lt = h.0
fits_at (e ∷ es) size (suc k) d h lt = fits_at es size k d h.1 (omega arith)

value_set : (f : Formula) (limit : ℕ) (frame wires : List ℤ) (k : ℕ) (v : ℤ) → ReadsBelow limit f → limit ≤ k → formula_value f frame (set wires k v) ≡ formula_value f frame wires
value_set (Const n) limit frame wires k v r le = refl
value_set (Get n) limit frame wires k v r le = refl
value_set (And a b) limit frame wires k v r le =
    let na : a ≢ k = omega arith in
    let nb : b ≢ k = omega arith in
    let ea = get_or-set_other wires k a v (pos 0) na in
    let eb = get_or-set_other wires k b v (pos 0) nb in
    ap (λ x. of_bool (is_true x && is_on (set wires k v) b)) ea ∙ ap (λ y. of_bool (is_on wires a && is_true y)) eb
value_set (Or a b) limit frame wires k v r le =
    let na : a ≢ k = omega arith in
    let nb : b ≢ k = omega arith in
    let ea = get_or-set_other wires k a v (pos 0) na in
    let eb = get_or-set_other wires k b v (pos 0) nb in
    ap (λ x. of_bool (is_true x || is_on (set wires k v) b)) ea ∙ ap (λ y. of_bool (is_on wires a || is_true y)) eb
value_set (Not a) limit frame wires k v r le =
    let na : a ≢ k = omega arith in
    ap (λ x. of_bool (not (is_true x))) (get_or-set_other wires k a v (pos 0) na)

pub satisfies_set : (es : List Equation) (n : ℕ) (frame wires : List ℤ) (k : ℕ) (v : ℤ) → IsOrdered n es → n + length es ≤ k → Satisfies es frame wires → Satisfies es frame (set wires k v)
satisfies_set [] n frame wires k v o le h = tt
satisfies_set (e ∷ es) n frame wires k v o le h =
    let other : e.wire ≢ k = omega (arith, o.0) in (
      get_or-set_other wires k e.wire v (pos 0) other ∙ h.0 ∙ sym (value_set e.formula n frame wires k v o.1 (omega arith)),
      satisfies_set es (n + 1) frame wires k v o.2 (omega arith) h.1,
    )

satisfies_append : (xs ys : List Equation) (frame wires : List ℤ) → Satisfies xs frame wires → Satisfies ys frame wires → Satisfies (xs ++ ys) frame wires
satisfies_append [] ys frame wires hx hy = hy
satisfies_append (x ∷ xs) ys frame wires hx hy = (hx.0, satisfies_append xs ys frame wires hx.1 hy)

pub satisfies_front : (xs ys : List Equation) (frame wires : List ℤ) → Satisfies (xs ++ ys) frame wires → Satisfies xs frame wires
satisfies_front [] ys frame wires h = tt
satisfies_front (x ∷ xs) ys frame wires h = (h.0, satisfies_front xs ys frame wires h.1)

pub satisfies_back : (xs ys : List Equation) (frame wires : List ℤ) → Satisfies (xs ++ ys) frame wires → Satisfies ys frame wires
satisfies_back [] ys frame wires h = h
satisfies_back (x ∷ xs) ys frame wires h = satisfies_back xs ys frame wires h.1

length_take : (es : List Equation) (k : ℕ) → k ≤ length es → length (take k es) ≡ k
length_take [] zero h = refl
length_take [] (suc k) h = absurd (omega arith)
length_take (e ∷ es) zero h = refl
length_take (e ∷ es) (suc k) h = omega (arith, length_take es k (omega arith))

-- one more equation
pub solve_step : (es : List Equation) (k : ℕ) (d : Equation) (frame wires : List ℤ) (v : ℤ) → IsOrdered 0 es → k < length es → length wires ≡ length es → v ≡ formula_value (get_or es k d).formula frame wires → Satisfies (take k es) frame wires → Satisfies (take (suc k) es) frame (set wires (get_or es k d).wire v)
solve_step es k d frame wires v o lt len value h =
    let e = get_or es k d in
    let at = ordered_at es 0 k d o lt in
    let z : 0 + k ≡ k = omega arith in
    let wire : e.wire ≡ k = at.0 ∙ z in
    let lk = length_take es k (omega arith) in
    let reads : ReadsBelow k e.formula = subst (λ m. ReadsBelow m e.formula) z at.1 in
    let front = satisfies_set (take k es) 0 frame wires k v (ordered_take es 0 k o) (omega arith) h in
    let last : Satisfies (e ∷ []) frame (set wires k v) =
    (ap (λ w. number_at (set wires k v) w) wire ∙ get_or-set_same wires k v (pos 0) (omega arith) ∙ value ∙ sym (value_set e.formula k frame wires k v reads (omega arith)), tt) in
    let both = satisfies_append (take k es) (e ∷ []) frame (set wires k v) front last in
    subst (λ w. Satisfies (take (suc k) es) frame (set wires w v)) (sym wire) (subst (λ l. Satisfies l frame (set wires k v)) (sym (take-suc es k d lt)) both)
