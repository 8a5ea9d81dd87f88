-- Ordered equations have one solution.
use Rattle.std.proofs.Common.{◌≡◌, ℕ, zero, suc, ◌+◌, ◌<◌, ◌≤◌, ℤ, List, [], ◌∷◌, length, sym, ◌∙◌, subst, arith, ◌⊎◌, inl, inr}
use Rattle.wire_code.specs.declared.equation.Equation.{Equation}
use Rattle.wire_code.specs.Formulas.{IsOrdered, Satisfies}
use Rattle.wire_code.proofs.EquationLemmas.{value_agreeing}

one_more : (j n : ℕ) → (j < n) ⊎ (n ≤ j) → (suc j < suc n) ⊎ (suc n ≤ suc j)
one_more j n (inl h) = inl (omega arith)
one_more j n (inr h) = inr (omega arith)

pub less_or_not : (j n : ℕ) → (j < n) ⊎ (n ≤ j)
less_or_not j zero = inr (omega arith)
less_or_not zero (suc n) = inl (omega arith)
less_or_not (suc j) (suc n) = one_more j n (less_or_not j n)

-- what holds of the numbers below n, and of n
pub step_below : (P : ℕ → Type 0) (n : ℕ) → ((j : ℕ) → j < n → P j) → P n → (j : ℕ) → (j < n) ⊎ (n ≤ j) → j < n + 1 → P j
step_below P n below own j (inl lt) h = below j lt
step_below P n below own j (inr le) h = let e : n ≡ j = omega arith in subst P e own

pub one_solution : (f w v : ℕ → ℤ) (es : List Equation) (n : ℕ) → IsOrdered n es → Satisfies f w es → Satisfies f v es → ((j : ℕ) → j < n → w j ≡ v j) → (k : ℕ) → k < n + length es → w k ≡ v k
one_solution f w v [] n o h g below k lt = below k (omega arith)
one_solution f w v (e ∷ es) n o h g below k lt =
    let value = value_agreeing e.formula n f v w o.1 below in
    let at = h.0 ∙ value ∙ sym g.0 in
    let own = subst (λ i. w i ≡ v i) o.0 at in
    one_solution f w v es (n + 1) o.2 h.1 g.1 (λ j less. step_below (λ i. w i ≡ v i) n below own j (less_or_not j n) less) k (omega arith)
