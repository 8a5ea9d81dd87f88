-- Completion codes.
use Rattle.std.proofs.Common.{◌≡◌, ◌≢◌, ℕ, suc, ◌-◌, ◌==◌, ◌≤◌, ◌<◌, nat_le, nat_lt, Bool, true, false, ◌&&◌, cond, refl, ap, ◌∙◌, arith}
use Rattle.std.proofs.lemmas.Bool.Decides.{nat_tests}
use Rattle.kernel_terms.specs.Limits.{most_traps}
use Rattle.kernel_rules.specs.definitions.TickRule.{ended_code, paused_code, exit_code, has_paused, has_exited, code_of_both, code_of_trap, code_of_weak_abort}

pub inner_exit : (d : ℕ) → suc d < most_traps → code_of_trap (exit_code (suc d)) ≡ exit_code d
inner_exit d h =
    let own : (exit_code (suc d) == exit_code 0) ≡ false = grind (arith, nat_tests) in
    let out : has_exited (exit_code (suc d)) ≡ true = grind (arith, nat_tests) in
    ap (λ b. cond b ended_code (cond (has_exited (exit_code (suc d))) (exit_code (suc d) - 1) (exit_code (suc d)))) own
    ∙ ap (λ b. cond b (exit_code (suc d) - 1) (exit_code (suc d))) out
    ∙ (let e : exit_code (suc d) - 1 ≡ exit_code d = omega arith in e)

above : (n : ℕ) → exit_code most_traps ≤ n → has_exited n ≡ false
above n h = low (nat_le (exit_code 0) n) (nat_lt n (exit_code most_traps)) (grind (arith, nat_tests))
  where
    low : (a b : Bool) → b ≡ false → a && b ≡ false
    low true b h = h
    low false b h = refl

pub trap_leaves_above : (n : ℕ) → exit_code most_traps ≤ n → code_of_trap n ≡ n
trap_leaves_above n h =
    let own : (n == exit_code 0) ≡ false = grind (arith, nat_tests) in
    ap (λ b. cond b ended_code (cond (has_exited n) (n - 1) n)) own ∙ ap (λ b. cond b (n - 1) n) (above n h)

pub greater_counts : (m n : ℕ) → m ≤ n → code_of_both m n ≡ n
greater_counts m n h = grind arith

pub greater_counts_first : (m n : ℕ) → n ≤ m → code_of_both m n ≡ m
greater_counts_first m n h = grind arith

pub weak_abort_leaves : (n : ℕ) → n ≢ paused_code → code_of_weak_abort n ≡ n
weak_abort_leaves n h =
    let other : has_paused n ≡ false = grind (arith, nat_tests) in ap (λ b. cond b ended_code n) other
