-- What ordered equations read, and values that agree on it.
use Rattle.std.proofs.Common.{◌≡◌, ℕ, zero, suc, ◌+◌, ◌<◌, ◌≤◌, ℤ, ◌&&◌, ◌||◌, not, cond, List, [], ◌∷◌, ◌++◌, length, take, get_or, refl, sym, ap, ◌∙◌, subst, arith}
use Rattle.java_values.specs.Arithmetic.{is_true, of_bool, applied1, applied2, cast_to}
use Rattle.wire_code.specs.declared.formula.Formula.{Formula}
use Rattle.wire_code.specs.declared.formula.Formula.TheVariants.{Const, Get, And, Or, Not, Apply1, Apply2, Cast, Choose}
use Rattle.wire_code.specs.declared.equation.Equation.{Equation}
use Rattle.wire_code.specs.Formulas.{IsOrdered, Satisfies, EachRead, ReadsBelow, formula_value, is_on}

pub ordered_at : (es : List Equation) (n k : ℕ) (d : Equation) → IsOrdered n es → k < length es → ((get_or es k d).wire ≡ n + k) × ReadsBelow (n + k) (get_or es k d).formula
ordered_at [] n k d h lt = absurd (omega arith)
ordered_at (e ∷ es) n zero d h lt = let s : n + 0 ≡ n = omega arith in (h.0 ∙ sym s, subst (λ m. ReadsBelow m e.formula) (sym s) h.1)
ordered_at (e ∷ es) n (suc k) d h lt =
    let s : n + 1 + k ≡ n + suc k = omega arith in
    let r = ordered_at es (n + 1) k d h.2 (omega arith) in
    (r.0 ∙ s, subst (λ m. ReadsBelow m (get_or es k d).formula) s r.1)

pub ordered_take : (es : List Equation) (n k : ℕ) → IsOrdered n es → IsOrdered n (take k es)
ordered_take [] n zero h = tt
ordered_take [] n (suc k) h = tt
ordered_take (e ∷ es) n zero h = tt
ordered_take (e ∷ es) n (suc k) h = (h.0, h.1, ordered_take es (n + 1) k h.2)

pub length_take : (es : List Equation) (k : ℕ) → k ≤ length es → length (take k es) ≡ k
length_take [] zero h = refl
length_take [] (suc k) h = absurd (omega arith)
length_take (e ∷ es) zero h = refl
length_take (e ∷ es) (suc k) h = omega (arith, length_take es k (omega arith))

-- a formula has the same value where the wires that it reads have
pub value_of_reads : (g : Formula) (P : ℕ → Type 0) (f w v : ℕ → ℤ) → EachRead P g → ((j : ℕ) → P j → v j ≡ w j) → formula_value f v g ≡ formula_value f w g
value_of_reads (Const n) P f w v r same = refl
value_of_reads (Get k) P f w v r same = refl
value_of_reads (And a b) P f w v r same =
    ap (λ x. of_bool (is_true x && is_on v b)) (same a r.0) ∙ ap (λ y. of_bool (is_on w a && is_true y)) (same b r.1)
value_of_reads (Or a b) P f w v r same =
    ap (λ x. of_bool (is_true x || is_on v b)) (same a r.0) ∙ ap (λ y. of_bool (is_on w a || is_true y)) (same b r.1)
value_of_reads (Not a) P f w v r same = ap (λ x. of_bool (not (is_true x))) (same a r)
value_of_reads (Apply1 op k a) P f w v r same = ap (λ x. applied1 op k x) (same a r)
value_of_reads (Apply2 op k l a b) P f w v r same =
    ap (λ x. applied2 op k x l (v b)) (same a r.0) ∙ ap (λ y. applied2 op k (w a) l y) (same b r.1)
value_of_reads (Cast k l a) P f w v r same = ap (λ x. cast_to l x) (same a r)
value_of_reads (Choose c a b) P f w v r same =
    ap (λ x. cond (is_true x) (v a) (v b)) (same c r.0)
    ∙ ap (λ y. cond (is_on w c) y (v b)) (same a r.1)
    ∙ ap (λ z. cond (is_on w c) (w a) z) (same b r.2)

pub value_agreeing : (g : Formula) (limit : ℕ) (f w v : ℕ → ℤ) → ReadsBelow limit g → ((j : ℕ) → j < limit → v j ≡ w j) → formula_value f v g ≡ formula_value f w g
value_agreeing g limit f w v r same = value_of_reads g (λ j. j < limit) f w v r same

-- what a formula reads
pub each_read : (g : Formula) (P Q : ℕ → Type 0) → ((k : ℕ) → P k → Q k) → EachRead P g → EachRead Q g
each_read (Const n) P Q to r = tt
each_read (Get k) P Q to r = tt
each_read (And a b) P Q to r = (to a r.0, to b r.1)
each_read (Or a b) P Q to r = (to a r.0, to b r.1)
each_read (Not a) P Q to r = to a r
each_read (Apply1 op k a) P Q to r = to a r
each_read (Apply2 op k l a b) P Q to r = (to a r.0, to b r.1)
each_read (Cast k l a) P Q to r = to a r
each_read (Choose c a b) P Q to r = (to c r.0, to a r.1, to b r.2)

pub reads_more : (g : Formula) (n m : ℕ) → n ≤ m → ReadsBelow n g → ReadsBelow m g
reads_more g n m le r = each_read g (λ k. k < n) (λ k. k < m) (λ k lt. omega arith) r

-- ordered equations stay satisfied where later wires change
pub satisfies_agreeing : (es : List Equation) (n : ℕ) (f w v : ℕ → ℤ) → IsOrdered n es → ((j : ℕ) → j < n + length es → v j ≡ w j) → Satisfies f w es → Satisfies f v es
satisfies_agreeing [] n f w v o same h = tt
satisfies_agreeing (e ∷ es) n f w v o same h =
    let own : v e.wire ≡ w e.wire = same e.wire (omega (arith, o.0)) in (
      own ∙ h.0 ∙ sym (value_agreeing e.formula n f w v o.1 (λ j lt. same j (omega arith))),
      satisfies_agreeing es (n + 1) f w v o.2 (λ j lt. same j (omega arith)) h.1,
    )

pub satisfies_append : (xs ys : List Equation) (f w : ℕ → ℤ) → Satisfies f w xs → Satisfies f w ys → Satisfies f w (xs ++ ys)
satisfies_append [] ys f w hx hy = hy
satisfies_append (x ∷ xs) ys f w hx hy = (hx.0, satisfies_append xs ys f w hx.1 hy)
