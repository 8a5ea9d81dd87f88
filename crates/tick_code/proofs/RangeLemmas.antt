-- The number of an operation lies in the kind of its result.
use Rattle.std.proofs.Common.{rules, ◌≡◌, ℕ, zero, suc, ℤ, pos, negsuc, neg_ℤ, ◌-ℤ◌, Bool, true, false, ◌&&◌, cond, Some, None, ◌⊎◌, inl, inr, refl, FitsSigned, Fits, to_z, of_z}
use Rattle.std.specs.Int.{Width, w32, w64, int_shr, int_bit_and, int_bit_or, int_bit_xor}
use Rattle.std.specs.Int.Bits.{bit_and, bit_or, bit_xor}
use Rattle.std.proofs.lemmas.Nat.{shr_le}
use Rattle.std.proofs.Math.Facts.{Fits-and, Fits-or, Fits-xor, Fits-of_z, sfits_to_z}
use Rattle.java_values.specs.declared.kind.Kind.{Kind}
use Rattle.java_values.specs.declared.kind.Kind.TheVariants.{Boolean, Byte, Short, Char, Int, Long}
use Rattle.java_values.specs.Kinds.{IsInRange, is_integer, promoted, promoted2}
use Rattle.java_values.specs.Arithmetic.{of_bool}
use Rattle.java_values.proofs.InRangeLemmas.{int_range, long_range}

-- a test that gives one kind or none
pub if_kind : (t : Bool) (p m : Kind) → cond t (Some p) None ≡ Some m → (t ≡ true) × (p ≡ m)
if_kind true p m e = search rules
if_kind false p m e = search rules

pub truth_range : (b : Bool) → IsInRange Boolean (of_bool b)
truth_range true = search rules
truth_range false = search rules

pub widened : (k : Kind) (n : ℤ) → IsInRange k n → is_integer k ≡ true → IsInRange (promoted k) n
widened Boolean n h i = search rules
widened Byte n h i = search rules
widened Short n h i = search rules
widened Char n h i = search rules
widened Int n h i = h
widened Long n h i = h

pub complement_int : (n : ℤ) → IsInRange Int n → IsInRange Int (neg_ℤ n -ℤ pos 1)
complement_int (pos zero) h = search rules
complement_int (pos (suc n)) h = search rules
complement_int (negsuc n) h = search rules

pub complement_long : (n : ℤ) → IsInRange Long n → IsInRange Long (neg_ℤ n -ℤ pos 1)
complement_long (pos zero) h = search rules
complement_long (pos (suc n)) h = search rules
complement_long (negsuc n) h = search rules

pub shr_int : (n : ℤ) (d : ℕ) → IsInRange Int n → IsInRange Int (int_shr n d)
shr_int (pos n) d h = let le = shr_le n d in search rules
shr_int (negsuc n) d h = let le = shr_le n d in search rules

pub shr_long : (n : ℤ) (d : ℕ) → IsInRange Long n → IsInRange Long (int_shr n d)
shr_long (pos n) d h = let le = shr_le n d in search rules
shr_long (negsuc n) d h = let le = shr_le n d in search rules

-- what a bit operation leaves
signed_bits : (w : Width) (n : ℕ) → Fits w n → FitsSigned w (to_z w n)
signed_bits w n h = sfits_to_z h

int_fits : (n : ℤ) → IsInRange Int n → FitsSigned w32 n
int_fits n h = search rules

long_fits : (n : ℤ) → IsInRange Long n → FitsSigned w64 n
long_fits n h = search rules

pub and_int : (m n : ℤ) → IsInRange Int m → IsInRange Int n → IsInRange Int (int_bit_and w32 m n)
and_int m n h g = int_range (int_bit_and w32 m n) (signed_bits w32 (bit_and (of_z w32 m) (of_z w32 n)) (Fits-and (of_z w32 n) (Fits-of_z (int_fits m h))))

pub and_long : (m n : ℤ) → IsInRange Long m → IsInRange Long n → IsInRange Long (int_bit_and w64 m n)
and_long m n h g = long_range (int_bit_and w64 m n) (signed_bits w64 (bit_and (of_z w64 m) (of_z w64 n)) (Fits-and (of_z w64 n) (Fits-of_z (long_fits m h))))

pub xor_int : (m n : ℤ) → IsInRange Int m → IsInRange Int n → IsInRange Int (int_bit_xor w32 m n)
xor_int m n h g = int_range (int_bit_xor w32 m n) (signed_bits w32 (bit_xor (of_z w32 m) (of_z w32 n)) (Fits-xor (Fits-of_z (int_fits m h)) (Fits-of_z (int_fits n g))))

pub xor_long : (m n : ℤ) → IsInRange Long m → IsInRange Long n → IsInRange Long (int_bit_xor w64 m n)
xor_long m n h g = long_range (int_bit_xor w64 m n) (signed_bits w64 (bit_xor (of_z w64 m) (of_z w64 n)) (Fits-xor (Fits-of_z (long_fits m h)) (Fits-of_z (long_fits n g))))

pub or_int : (m n : ℤ) → IsInRange Int m → IsInRange Int n → IsInRange Int (int_bit_or w32 m n)
or_int m n h g = int_range (int_bit_or w32 m n) (signed_bits w32 (bit_or (of_z w32 m) (of_z w32 n)) (Fits-or (Fits-of_z (int_fits m h)) (Fits-of_z (int_fits n g))))

pub or_long : (m n : ℤ) → IsInRange Long m → IsInRange Long n → IsInRange Long (int_bit_or w64 m n)
or_long m n h g = long_range (int_bit_or w64 m n) (signed_bits w64 (bit_or (of_z w64 m) (of_z w64 n)) (Fits-or (Fits-of_z (long_fits m h)) (Fits-of_z (long_fits n g))))

-- a boolean is 0 or 1
pub is_bit : (n : ℤ) → IsInRange Boolean n → (n ≡ pos 0) ⊎ (n ≡ pos 1)
is_bit (pos zero) h = inl refl
is_bit (pos (suc zero)) h = inr refl
is_bit (pos (suc (suc n))) h = search rules
is_bit (negsuc n) h = search rules

zero_bit : IsInRange Boolean (pos 0)
zero_bit = search rules

one_bit : IsInRange Boolean (pos 1)
one_bit = search rules

on_bits : (f : ℤ → ℤ → ℤ) (m n : ℤ) → (m ≡ pos 0) ⊎ (m ≡ pos 1) → (n ≡ pos 0) ⊎ (n ≡ pos 1) → IsInRange Boolean (f (pos 0) (pos 0)) → IsInRange Boolean (f (pos 0) (pos 1)) → IsInRange Boolean (f (pos 1) (pos 0)) → IsInRange Boolean (f (pos 1) (pos 1)) → IsInRange Boolean (f m n)
on_bits f m n (inl a) (inl b) p q r s = rw (a, b) p
on_bits f m n (inl a) (inr b) p q r s = rw (a, b) q
on_bits f m n (inr a) (inl b) p q r s = rw (a, b) r
on_bits f m n (inr a) (inr b) p q r s = rw (a, b) s

pub and_bits : (m n : ℤ) → IsInRange Boolean m → IsInRange Boolean n → IsInRange Boolean (int_bit_and w32 m n)
and_bits m n h g = on_bits (int_bit_and w32) m n (is_bit m h) (is_bit n g) zero_bit zero_bit zero_bit one_bit

pub xor_bits : (m n : ℤ) → IsInRange Boolean m → IsInRange Boolean n → IsInRange Boolean (int_bit_xor w32 m n)
xor_bits m n h g = on_bits (int_bit_xor w32) m n (is_bit m h) (is_bit n g) zero_bit one_bit one_bit zero_bit

pub or_bits : (m n : ℤ) → IsInRange Boolean m → IsInRange Boolean n → IsInRange Boolean (int_bit_or w32 m n)
or_bits m n h g = on_bits (int_bit_or w32) m n (is_bit m h) (is_bit n g) zero_bit one_bit one_bit one_bit

-- both integers
pub both_integers : (k l : Kind) → is_integer k && is_integer l ≡ true → (is_integer k ≡ true) × (is_integer l ≡ true)
both_integers k l h = search rules

pub widened_left : (k l : Kind) (n : ℤ) → IsInRange k n → is_integer k ≡ true → IsInRange (promoted2 k l) n
widened_left Boolean l n h i = search rules
widened_left Byte Long n h i = search rules
widened_left Byte _ n h i = search rules
widened_left Short Long n h i = search rules
widened_left Short _ n h i = search rules
widened_left Char Long n h i = search rules
widened_left Char _ n h i = search rules
widened_left Int Long n h i = search rules
widened_left Int _ n h i = search rules
widened_left Long l n h i = h

pub promoted_is : (k : Kind) → (promoted k ≡ Int) ⊎ (promoted k ≡ Long)
promoted_is Long = inr refl
promoted_is _ = inl refl

pub promoted2_is : (k l : Kind) → (promoted2 k l ≡ Int) ⊎ (promoted2 k l ≡ Long)
promoted2_is Long l = inr refl
promoted2_is Boolean l = promoted_is l
promoted2_is Byte l = promoted_is l
promoted2_is Short l = promoted_is l
promoted2_is Char l = promoted_is l
promoted2_is Int l = promoted_is l
