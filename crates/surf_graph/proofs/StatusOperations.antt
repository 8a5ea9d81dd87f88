-- Comparisons, choices and a difference of statuses.
use Rattle.std.proofs.Common.{rules, ◌≡◌, ◌+◌, ◌-◌, ◌<◌, ◌≤◌, ◌==◌, nat_lt, ℕ, zero, suc, ℤ, pos, negsuc, ◌-ℤ◌, int_lt, Bool, true, false, ◌&&◌, cond, refl, sym, arith, ap, ap₂, ◌∙◌}
use Rattle.std.specs.Ordering.{int_eq}
use Rattle.std.proofs.lemmas.Int.{ints}
use Rattle.std.proofs.lemmas.Bool.Decides.{nat_tests, Decides-int_eq}
use Rattle.java_values.specs.declared.kind.Kind.TheVariants.{Int}
use Rattle.java_values.specs.Arithmetic.{is_true, wrapped}
use Rattle.java_values.proofs.InRangeLemmas.{wrapped_kept}
use Rattle.kernel_rules.specs.definitions.TickRule.{has_exited}
use Rattle.surf_graph.specs.definitions.Formulas.{to_nat, is_on, of_trap, of_weak_abort}
use Rattle.surf_graph.specs.definitions.SpelledOut.{trap_wires, weak_abort_wires}
use Rattle.surf_graph.proofs.Parts.{by_cases}
use Rattle.surf_graph.proofs.SetValues.{truth_of}
use Rattle.wire_code.specs.Formulas.{Satisfies as Meets, formula_value as given_by}

equal_if : (n m : ℕ) → (n == m) ≡ true → n ≡ m
equal_if n m h = grind (arith, nat_tests)

unequal_if : (n m : ℕ) → (n == m) ≡ false → n ≡ m → ⊥
unequal_if n m h e = grind (arith, nat_tests)

same_number : (n m : ℕ) → int_eq (pos n) (pos m) ≡ (n == m)
same_number n m =
    let d = Decides-int_eq (pos n) (pos m) in
    by_cases (n == m) (λ e. d.1 (ap pos (equal_if n m e)) ∙ sym e)
    (λ e. by_cases (int_eq (pos n) (pos m)) (λ i. absurd (unequal_if n m e (ap to_nat (d.0 i)))) (λ i. i ∙ sym e))

never_zero : (m : ℕ) → false ≡ (0 == suc m)
never_zero m = by_cases (0 == suc m) (λ e. absurd (let f : ⊥ = grind (arith, nat_tests) in f)) (λ e. sym e)

pub same_status : (s : ℤ) (m : ℕ) → int_eq s (pos (suc m)) ≡ (to_nat s == suc m)
same_status (pos n) m = same_number n (suc m)
same_status (negsuc n) m = never_zero m

next_equal : (n m : ℕ) → (suc n == suc m) ≡ (n == m)
next_equal n m = by_cases (n == m) (λ e. (let t : (suc n == suc m) ≡ true = grind (arith, nat_tests) in t) ∙ sym e) (λ e. (let t : (suc n == suc m) ≡ false = grind (arith, nat_tests) in t) ∙ sym e)

less_number : (n m : ℕ) → int_lt (pos n) (pos m) ≡ nat_lt n m
less_number n m = refl

one_back : (n : ℕ) → pos (suc n) -ℤ pos 1 ≡ pos n
one_back n = grind (arith, ints)

small_kept : (n : ℕ) → n < 66 → wrapped Int (pos (suc n) -ℤ pos 1) ≡ pos n
small_kept n h = ap (wrapped Int) (one_back n) ∙ wrapped_kept Int (pos n) (record { low = omega arith; high = search rules })

-- an exit further out
further_out : (code : ℕ) → (code == 2) ≡ false → has_exited code ≡ nat_lt 3 (suc code) && nat_lt (suc code) 67
further_out code h = by_cases (has_exited code) (λ e. e ∙ sym (out e)) (λ e. e ∙ sym (in_it e)) where
  out : has_exited code ≡ true → nat_lt 3 (suc code) && nat_lt (suc code) 67 ≡ true
  out e = grind (arith, nat_tests)

  in_it : has_exited code ≡ false → nat_lt 3 (suc code) && nat_lt (suc code) 67 ≡ false
  in_it e = grind (arith, nat_tests)

-- by comparisons of the status
abbrev trapped : Bool → Bool → ℤ → ℤ
trapped own out s = cond own (pos 1) (cond out (wrapped Int (s -ℤ pos 1)) s)

one_less : (code : ℕ) (own out : Bool) → (code == 2) ≡ own → has_exited code ≡ out → trapped own out (pos (suc code)) ≡ pos (suc (cond own 0 (cond out (code - 1) code)))
one_less code true out e g = refl
one_less code false true e g =
    let small : code < 66 = grind (arith, nat_tests) in
    let some : 2 ≤ code = grind (arith, nat_tests) in
    small_kept code small ∙ ap pos (omega (arith, some))
one_less code false false e g = refl

trap_status : (code : ℕ) → trapped (code == 2) (has_exited code) (pos (suc code)) ≡ of_trap (pos (suc code))
trap_status code = one_less code (code == 2) (has_exited code) refl refl

out_if : (code : ℕ) (own a b : Bool) → (own ≡ false → a ≡ b) → trapped own a (pos (suc code)) ≡ trapped own b (pos (suc code))
out_if code true a b h = refl
out_if code false a b h = ap (λ x. trapped false x (pos (suc code))) (h refl)

trap_compared : (s : ℤ) → trapped (int_eq s (pos 3)) (int_lt (pos 3) s && int_lt s (pos 67)) s ≡ of_trap s
trap_compared (negsuc n) = refl
trap_compared (pos zero) = refl
trap_compared (pos (suc code)) =
    ap (λ x. trapped x (nat_lt 3 (suc code) && nat_lt (suc code) 67) (pos (suc code))) (same_number (suc code) 3 ∙ next_equal code 2)
    ∙ out_if code (code == 2) (nat_lt 3 (suc code) && nat_lt (suc code) 67) (has_exited code) (λ e. sym (further_out code e))
    ∙ trap_status code

pub trap_given : (f w : ℕ → ℤ) (n a : ℕ) → Meets f w (trap_wires n a).equations → given_by f w (trap_wires n a).operation ≡ of_trap (w a)
trap_given f w n a h =
    let own : is_on w (n + 1) ≡ int_eq (w a) (pos 3) = ap is_true h.1.0 ∙ truth_of (int_eq (w a) (w n)) ∙ ap (int_eq (w a)) h.0 in
    let above : is_on w (n + 2) ≡ int_lt (pos 3) (w a) = ap is_true h.1.1.0 ∙ truth_of (int_lt (w n) (w a)) ∙ ap (λ x. int_lt x (w a)) h.0 in
    let below : is_on w (n + 4) ≡ int_lt (w a) (pos 67) = ap is_true h.1.1.1.1.0 ∙ truth_of (int_lt (w a) (w (n + 3))) ∙ ap (int_lt (w a)) h.1.1.1.0 in
    let out : is_on w (n + 5) ≡ int_lt (pos 3) (w a) && int_lt (w a) (pos 67) = ap is_true h.1.1.1.1.1.0 ∙ truth_of (is_on w (n + 2) && is_on w (n + 4)) ∙ ap₂ (λ x y. x && y) above below in
    let less : w (n + 7) ≡ wrapped Int (w a -ℤ pos 1) = h.1.1.1.1.1.1.1.0 ∙ ap (λ x. wrapped Int (w a -ℤ x)) h.1.1.1.1.1.1.0 in
    let other : w (n + 8) ≡ cond (int_lt (pos 3) (w a) && int_lt (w a) (pos 67)) (wrapped Int (w a -ℤ pos 1)) (w a) = h.1.1.1.1.1.1.1.1.0 ∙ ap₂ (λ x y. cond x y (w a)) out less in
    ap (λ x. cond x (w (n + 6)) (w (n + 8))) own ∙ ap₂ (λ x y. cond (int_eq (w a) (pos 3)) x y) h.1.1.1.1.1.1.0 other ∙ trap_compared (w a)

ends_instead : (b : Bool) (code : ℕ) → cond b (pos 1) (pos (suc code)) ≡ pos (suc (cond b 0 code))
ends_instead true code = refl
ends_instead false code = refl

weak_compared : (s : ℤ) → cond (int_eq s (pos 2)) (pos 1) s ≡ of_weak_abort s
weak_compared (negsuc n) = refl
weak_compared (pos zero) = refl
weak_compared (pos (suc code)) = ap (λ x. cond x (pos 1) (pos (suc code))) (same_number (suc code) 2 ∙ next_equal code 1) ∙ ends_instead (code == 1) code

weak_where : (t : Bool) (s : ℤ) → cond (t && int_eq s (pos 2)) (pos 1) s ≡ cond t (of_weak_abort s) s
weak_where true s = weak_compared s
weak_where false s = refl

pub weak_abort_given : (f w : ℕ → ℤ) (n t a : ℕ) → Meets f w (weak_abort_wires n t a).equations → given_by f w (weak_abort_wires n t a).operation ≡ cond (is_on w t) (of_weak_abort (w a)) (w a)
weak_abort_given f w n t a h =
    let two : is_on w (n + 1) ≡ int_eq (w a) (pos 2) = ap is_true h.1.0 ∙ truth_of (int_eq (w a) (w n)) ∙ ap (int_eq (w a)) h.0 in
    let both : is_on w (n + 2) ≡ is_on w t && int_eq (w a) (pos 2) = ap is_true h.1.1.0 ∙ truth_of (is_on w t && is_on w (n + 1)) ∙ ap (λ x. is_on w t && x) two in
    ap₂ (λ x y. cond x y (w a)) both (h.1.1.1.1.0 ∙ h.1.1.1.0) ∙ weak_where (is_on w t) (w a)
