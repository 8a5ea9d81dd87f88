-- What the machine's operations leave in a type's bits, as wrapped numbers.
use Rattle.std.proofs.Common.{◌≡◌, ◌≢◌, ℕ, zero, suc, ◌*◌, ◌/◌, ◌%◌, ◌^◌, ◌<◌, ◌≤◌, ℤ, pos, negsuc, ◌*ℤ◌, neg_ℤ, refl, ap, sym, ◌∙◌, arith, to_z, of_z, FitsSigned}
use Rattle.std.specs.Int.{Width, int_wrap, int_rem_euclid, int_wrapping_div}
use Rattle.std.specs.Prelude.{int_div, int_rem, unsigned_abs}
use Rattle.std.proofs.lemmas.Int.{int_wrap-mul_left, to_z-of_z}
use Rattle.java_values.specs.Arithmetic.{quotient, remainder}
use Rattle.std.proofs.Math.Nat.{mod-eq_of_lt, div-le_self}
use Rattle.std.proofs.Math.Facts.{Fits-of_z}
use mir.Val.{bits}

pub natural_wraps : (w : Width) (n : ℕ) → to_z w (n % 2 ^ bits w) ≡ int_wrap w (pos n)
unfolding int_wrap
natural_wraps w n = refl

-- the low bits, as a number of the type
pub low_bits_wrap : (w : Width) (z : ℤ) → to_z w (unsigned_abs (int_rem_euclid z (pos (2 ^ bits w)))) ≡ int_wrap w z
unfolding int_wrap
low_bits_wrap w z = refl

pub small_wraps : (w : Width) (n : ℕ) → n < 2 ^ bits w → to_z w n ≡ int_wrap w (pos n)
small_wraps w n h = ap (to_z w) (sym (mod-eq_of_lt h)) ∙ natural_wraps w n

bits_below : (w : Width) (m : ℤ) → FitsSigned w m → of_z w m < 2 ^ bits w
bits_below w m h = let f = Fits-of_z h in f.fits

pub bits_wrap : (w : Width) (m : ℤ) → FitsSigned w m → int_wrap w (pos (of_z w m)) ≡ m
bits_wrap w m h = sym (small_wraps w (of_z w m) (bits_below w m h)) ∙ to_z-of_z w m h

pub shift_wraps : (w : Width) (m : ℤ) (k : ℕ) → FitsSigned w m → to_z w (of_z w m * 2 ^ k % 2 ^ bits w) ≡ int_wrap w (m *ℤ pos (2 ^ k))
shift_wraps w m k h =
    natural_wraps w (of_z w m * 2 ^ k)
    ∙ sym (int_wrap-mul_left w (pos (of_z w m)) (pos (2 ^ k)))
    ∙ ap (λ z. int_wrap w (z *ℤ pos (2 ^ k))) (bits_wrap w m h)

pub zeros_wrap : (w : Width) (m : ℤ) (k : ℕ) → FitsSigned w m → to_z w (of_z w m / 2 ^ k) ≡ int_wrap w (pos (of_z w m / 2 ^ k))
zeros_wrap w m k h = small_wraps w (of_z w m / 2 ^ k) (let a = bits_below w m h in let b = div-le_self (of_z w m) (2 ^ k) in omega (arith, a, b))

pub stored_wraps : (w : Width) (z : ℤ) → unsigned_abs z < 2 ^ bits w → to_z w (of_z w z) ≡ int_wrap w z
unfolding int_wrap
stored_wraps w (pos n) h = small_wraps w n h
stored_wraps w (negsuc n) h =
    let small : n < 2 ^ bits w = omega (arith, h) in
    let same : n % 2 ^ bits w ≡ n = mod-eq_of_lt small in
    ap (to_z w) (omega (arith, same))

same_size_below : (n a : ℕ) → n ≤ a → unsigned_abs (neg_ℤ (pos n)) ≤ a
same_size_below zero a h = h
same_size_below (suc n) a h = h

pub quotient_below : (m n : ℤ) → unsigned_abs (int_div m n) ≤ unsigned_abs m
quotient_below (pos a) (pos b) = div-le_self a b
quotient_below (pos a) (negsuc b) = same_size_below (a / suc b) a (div-le_self a (suc b))
quotient_below (negsuc a) (pos b) = same_size_below (suc a / b) (suc a) (div-le_self (suc a) b)
quotient_below (negsuc a) (negsuc b) = div-le_self (suc a) (suc b)

pub quotient_is : (m n : ℤ) → n ≢ pos 0 → int_div m n ≡ quotient m n
quotient_is m (pos zero) h = absurd (h refl)
quotient_is m (pos (suc n)) h = refl
quotient_is m (negsuc n) h = refl

pub remainder_is : (m n : ℤ) → n ≢ pos 0 → int_rem m n ≡ remainder m n
remainder_is m (pos zero) h = absurd (h refl)
remainder_is m (pos (suc n)) h = refl
remainder_is m (negsuc n) h = refl

-- what `wrapping_div` leaves
pub quotient_wraps :
    (w : Width) (m n r : ℤ) → FitsSigned w m → FitsSigned w n → FitsSigned w r
    → unsigned_abs (int_div m n) < 2 ^ bits w → n ≢ pos 0
    → r ≡ int_wrapping_div w (to_z w (of_z w m)) (to_z w (of_z w n))
    → to_z w (of_z w r) ≡ int_wrap w (quotient m n)
quotient_wraps w m n r left right fits small divisor given =
    to_z-of_z w r fits
    ∙ given
    ∙ ap (λ x. int_wrapping_div w x (to_z w (of_z w n))) (to_z-of_z w m left)
    ∙ ap (int_wrapping_div w m) (to_z-of_z w n right)
    ∙ stored_wraps w (int_div m n) small
    ∙ ap (int_wrap w) (quotient_is m n divisor)
