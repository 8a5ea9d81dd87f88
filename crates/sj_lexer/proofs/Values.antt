-- Numbers of digits, and their ranges.
use Rattle.std.proofs.Common.{◌≡◌, ℕ, ◌+◌, ◌*◌, ◌≤◌, List, [], ◌∷◌, arith}
use Rattle.std.proofs.Math.Nat.{le-mul_of_pos_right}
use Rattle.sj_lexer.specs.definitions.Numbers.{digit_value, number_from}

at_least : (base n d : ℕ) → 1 ≤ base → n ≤ n * base + d
at_least base n d h = let m = le-mul_of_pos_right {m = base} n (omega arith) in omega arith

pub digits_grow : (base n : ℕ) (bs : List ℕ) → 1 ≤ base → n ≤ number_from base n bs
digits_grow base n [] h = omega arith
digits_grow base n (b ∷ bs) h =
    let a = at_least base n (digit_value b) h in
    let c = digits_grow base (n * base + digit_value b) bs h in
    omega arith

pub past_digits : (base n : ℕ) (b : ℕ) (bs : List ℕ) (k m : ℕ) → 1 ≤ base → k ≤ n * base + digit_value b → number_from base n (b ∷ bs) ≡ m → k ≤ m
past_digits base n b bs k m h a e = let c = digits_grow base (n * base + digit_value b) bs h in omega arith

pub ruleset growing = (past_digits)
