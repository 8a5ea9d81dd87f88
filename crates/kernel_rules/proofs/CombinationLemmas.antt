-- Combination of two values: each operator is symmetric and associative, and stays in range.
use Rattle.std.proofs.Common.{rules, ◌≡◌, ℕ, ◌%◌, ◌^◌, ◌<◌, Bool, true, false, cond, ℤ, pos, negsuc, ◌+ℤ◌, int_le}
use Rattle.std.proofs.Common.{refl, sym, ap, ap₂, ◌∙◌, arith, pow_pos, to_z, of_z, FitsSigned, mod-eq_of_lt, bit_and, bit_or, bit_xor}
use Rattle.std.specs.Int.{w8, w16, w32, w64, int_wrap, int_rem_euclid, int_bit_and, int_bit_or, int_bit_xor}
use Rattle.std.specs.Int.Bits.{and_mod, or_mod, xor_mod, and_comm, or_comm, xor_comm, and_lt, or_lt, xor_lt, xor_assoc}
use Rattle.std.proofs.lemmas.Nat.{and_assoc}
use Rattle.std.proofs.lemmas.Nat.Bits.{bit_at_or, same_from_bits}
use Rattle.std.proofs.lemmas.Int.{ints}
use Rattle.std.proofs.Math.Facts.{Fits-of_z}
use Rattle.java_values.specs.declared.kind.Kind.{Kind}
use Rattle.java_values.specs.declared.kind.Kind.TheVariants.{Boolean, Byte, Short, Char, Int, Long}
use Rattle.java_values.specs.Kinds.{IsInRange, promoted2}
use Rattle.java_values.specs.Arithmetic.{wrapped, width_of}
use Rattle.java_values.proofs.WrappingLemmas.{low_bits_wrap, small_wraps, bits_wrap}
use Rattle.java_values.proofs.InRangeLemmas.{wrapped_range}
use Rattle.kernel_terms.specs.declared.tables.Combine.{Combine}
use Rattle.kernel_terms.specs.declared.tables.Combine.TheVariants.{Add, Max, Min, And, Or, Xor}
use Rattle.kernel_rules.specs.definitions.Signals.{combined}
use Rattle.kernel_rules.proofs.ModulusLemmas.{low, low_lt, low_add, low_wrapped}
use Rattle.std.proofs.Math.IntN.{+ℤ_comm, +ℤ_assoc}
use mir.Val.{bits}

-- the bits of a kind
abbrev size : Kind → ℕ
size Boolean = 1
size Byte = 8
size Short = 16
size Char = 16
size Int = 32
size Long = 64

-- the number of the kind with these bits
abbrev number : Kind → ℕ → ℤ
number Boolean n = pos n
number Byte n = to_z w8 n
number Short n = to_z w16 n
number Char n = pos n
number Int n = to_z w32 n
number Long n = to_z w64 n

-- the bits of a number
abbrev bits_at : Kind → ℤ → ℕ
bits_at k z = low (2 ^ size k) z

remainder_is_low : (m : ℕ) (z : ℤ) → int_rem_euclid z (pos m) ≡ pos (low m z)
remainder_is_low m (pos a) = refl
remainder_is_low m (negsuc a) = refl

number_of_bits : (k : Kind) (z : ℤ) → wrapped k z ≡ number k (bits_at k z)
number_of_bits Boolean z = remainder_is_low 2 z
number_of_bits Byte z = sym (low_bits_wrap w8 z)
number_of_bits Short z = sym (low_bits_wrap w16 z)
number_of_bits Char z = remainder_is_low 65536 z
number_of_bits Int z = sym (low_bits_wrap w32 z)
number_of_bits Long z = sym (low_bits_wrap w64 z)

same_bits : (k : Kind) (y z : ℤ) → bits_at k y ≡ bits_at k z → wrapped k y ≡ wrapped k z
same_bits k y z e = number_of_bits k y ∙ ap (number k) e ∙ sym (number_of_bits k z)

bits_below : (k : Kind) (z : ℤ) → bits_at k z < 2 ^ size k
bits_below k z = low_lt (2 ^ size k) z (pow_pos (size k))

wide_bits : (k : Kind) (z : ℤ) → bits_at k (int_wrap (width_of (promoted2 k k)) z) ≡ bits_at k z
wide_bits Boolean z = low_wrapped w32 2 2147483648 z (omega arith) refl
wide_bits Byte z = low_wrapped w32 256 16777216 z (omega arith) refl
wide_bits Short z = low_wrapped w32 65536 65536 z (omega arith) refl
wide_bits Char z = low_wrapped w32 65536 65536 z (omega arith) refl
wide_bits Int z = low_wrapped w32 4294967296 1 z (omega arith) refl
wide_bits Long z = low_wrapped w64 18446744073709551616 1 z (omega arith) refl

low_twice : (m : ℕ) (z : ℤ) → 0 < m → low m (int_rem_euclid z (pos m)) ≡ low m z
low_twice m z some = ap (low m) (remainder_is_low m z) ∙ mod-eq_of_lt (low_lt m z some)

wrapped_bits : (k : Kind) (z : ℤ) → bits_at k (wrapped k z) ≡ bits_at k z
wrapped_bits Boolean z = low_twice 2 z (omega arith)
wrapped_bits Byte z = low_wrapped w8 256 1 z (omega arith) refl
wrapped_bits Short z = low_wrapped w16 65536 1 z (omega arith) refl
wrapped_bits Char z = low_twice 65536 z (omega arith)
wrapped_bits Int z = low_wrapped w32 4294967296 1 z (omega arith) refl
wrapped_bits Long z = low_wrapped w64 18446744073709551616 1 z (omega arith) refl

work_wraps : (k : Kind) (z : ℤ) → wrapped (promoted2 k k) z ≡ int_wrap (width_of (promoted2 k k)) z
work_wraps Boolean z = refl
work_wraps Byte z = refl
work_wraps Short z = refl
work_wraps Char z = refl
work_wraps Int z = refl
work_wraps Long z = refl

-- ---- addition

added : (k : Kind) (m n : ℤ) → combined Add k m n ≡ wrapped k (m +ℤ n)
added k m n = same_bits k (wrapped (promoted2 k k) (m +ℤ n)) (m +ℤ n) (ap (bits_at k) (work_wraps k (m +ℤ n)) ∙ wide_bits k (m +ℤ n))

add_comm : (k : Kind) (m n : ℤ) → combined Add k m n ≡ combined Add k n m
add_comm k m n = added k m n ∙ ap (wrapped k) (+ℤ_comm m n) ∙ sym (added k n m)

add_onto : (k : Kind) (m n : ℤ) → wrapped k (wrapped k m +ℤ n) ≡ wrapped k (m +ℤ n)
add_onto k m n = same_bits k (wrapped k m +ℤ n) (m +ℤ n) (low_add (2 ^ size k) (wrapped k m) m n (pow_pos (size k)) (wrapped_bits k m))

add_assoc : (k : Kind) (l m n : ℤ) → combined Add k (combined Add k l m) n ≡ combined Add k l (combined Add k m n)
add_assoc k l m n =
    added k (combined Add k l m) n ∙ ap (λ z. wrapped k (z +ℤ n)) (added k l m) ∙ add_onto k (l +ℤ m) n
    ∙ ap (wrapped k) (+ℤ_assoc l m n ∙ +ℤ_comm l (m +ℤ n))
    ∙ sym (add_comm k l (combined Add k m n) ∙ added k (combined Add k m n) l ∙ ap (λ z. wrapped k (z +ℤ l)) (added k m n) ∙ add_onto k (m +ℤ n) l)

-- ---- the greater and the lesser

max_comm : (k : Kind) (m n : ℤ) → combined Max k m n ≡ combined Max k n m
max_comm k m n = by (int_le m n) (int_le n m) refl refl
  where
    by : (s t : Bool) → int_le m n ≡ s → int_le n m ≡ t → cond s n m ≡ cond t m n
    by true true p q = omega (arith, ints)
    by true false p q = refl
    by false true p q = refl
    by false false p q = omega (arith, ints)

min_comm : (k : Kind) (m n : ℤ) → combined Min k m n ≡ combined Min k n m
min_comm k m n = by (int_le m n) (int_le n m) refl refl
  where
    by : (s t : Bool) → int_le m n ≡ s → int_le n m ≡ t → cond s m n ≡ cond t n m
    by true true p q = omega (arith, ints)
    by true false p q = refl
    by false true p q = refl
    by false false p q = omega (arith, ints)

max_assoc : (k : Kind) (l m n : ℤ) → combined Max k (combined Max k l m) n ≡ combined Max k l (combined Max k m n)
max_assoc k l m n = by (int_le l m) (int_le m n) (int_le l n) refl refl refl
  where
    by : (s t u : Bool) → int_le l m ≡ s → int_le m n ≡ t → int_le l n ≡ u
        → cond (int_le (cond s m l) n) n (cond s m l) ≡ cond (int_le l (cond t n m)) (cond t n m) l
    by true true true p q r = ap (λ b. cond b n m) q ∙ sym (ap (λ b. cond b n l) r)
    by true true false p q r = ap (λ b. cond b n m) q ∙ (let e : n ≡ l = omega (arith, ints) in e) ∙ sym (ap (λ b. cond b n l) r)
    by true false u p q r = ap (λ b. cond b n m) q ∙ sym (ap (λ b. cond b m l) p)
    by false true u p q r = refl
    by false false true p q r = ap (λ b. cond b n l) r ∙ (let e : n ≡ l = omega (arith, ints) in e) ∙ sym (ap (λ b. cond b m l) p)
    by false false false p q r = ap (λ b. cond b n l) r ∙ sym (ap (λ b. cond b m l) p)

min_assoc : (k : Kind) (l m n : ℤ) → combined Min k (combined Min k l m) n ≡ combined Min k l (combined Min k m n)
min_assoc k l m n = by (int_le l m) (int_le m n) (int_le l n) refl refl refl
  where
    by : (s t u : Bool) → int_le l m ≡ s → int_le m n ≡ t → int_le l n ≡ u
        → cond (int_le (cond s l m) n) (cond s l m) n ≡ cond (int_le l (cond t m n)) l (cond t m n)
    by true true true p q r = ap (λ b. cond b l n) r ∙ sym (ap (λ b. cond b l m) p)
    by true true false p q r = ap (λ b. cond b l n) r ∙ (let e : n ≡ l = omega (arith, ints) in e) ∙ sym (ap (λ b. cond b l m) p)
    by true false u p q r = refl
    by false true u p q r = ap (λ b. cond b m n) q ∙ sym (ap (λ b. cond b l m) p)
    by false false true p q r = ap (λ b. cond b m n) q ∙ (let e : n ≡ l = omega (arith, ints) in e) ∙ sym (ap (λ b. cond b l n) r)
    by false false false p q r = ap (λ b. cond b m n) q ∙ sym (ap (λ b. cond b l n) r)

one_of : (b : Bool) (k : Kind) (m n : ℤ) → IsInRange k m → IsInRange k n → IsInRange k (cond b m n)
one_of true k m n p q = p
one_of false k m n p q = q

-- ---- the operators on bits

fits : (k : Kind) (n : ℤ) → IsInRange k n → FitsSigned (width_of (promoted2 k k)) n
fits Boolean n h = search rules
fits Byte n h = search rules
fits Short n h = search rules
fits Char n h = search rules
fits Int n h = search rules
fits Long n h = search rules

-- the size divides the working width
wide_remainder : (k : Kind) (n : ℕ) → n < 2 ^ bits (width_of (promoted2 k k)) → bits_at k (to_z (width_of (promoted2 k k)) n) ≡ n % 2 ^ size k
wide_remainder k n h = ap (bits_at k) (small_wraps (width_of (promoted2 k k)) n h) ∙ wide_bits k (pos n)

stored_bits : (k : Kind) (n : ℤ) → IsInRange k n → of_z (width_of (promoted2 k k)) n % 2 ^ size k ≡ bits_at k n
stored_bits k n h =
    let w = width_of (promoted2 k k) in
    sym (wide_bits k (pos (of_z w n))) ∙ ap (bits_at k) (bits_wrap w n (fits k n h))

stored_below : (k : Kind) (n : ℤ) → IsInRange k n → of_z (width_of (promoted2 k k)) n < 2 ^ bits (width_of (promoted2 k k))
stored_below k n h = let f = Fits-of_z (fits k n h) in f.fits

number_bits : (k : Kind) (n : ℕ) → n < 2 ^ size k → bits_at k (number k n) ≡ n
number_bits Boolean n h = mod-eq_of_lt h
number_bits Byte n h = ap (low 256) (small_wraps w8 n h) ∙ low_wrapped w8 256 1 (pos n) (omega arith) refl ∙ mod-eq_of_lt h
number_bits Short n h = ap (low 65536) (small_wraps w16 n h) ∙ low_wrapped w16 65536 1 (pos n) (omega arith) refl ∙ mod-eq_of_lt h
number_bits Char n h = mod-eq_of_lt h
number_bits Int n h = ap (low 4294967296) (small_wraps w32 n h) ∙ low_wrapped w32 4294967296 1 (pos n) (omega arith) refl ∙ mod-eq_of_lt h
number_bits Long n h = ap (low 18446744073709551616) (small_wraps w64 n h) ∙ low_wrapped w64 18446744073709551616 1 (pos n) (omega arith) refl ∙ mod-eq_of_lt h

-- what an operator on bits does, at any number of bits
record OnBits (f : ℕ → ℕ → ℕ) : Type 0 where
  lower : (k a b : ℕ) → a < 2 ^ k → b < 2 ^ k → f a b < 2 ^ k
  remainder : (a b k : ℕ) → f a b % 2 ^ k ≡ f (a % 2 ^ k) (b % 2 ^ k)
  comm : (a b : ℕ) → f a b ≡ f b a
  assoc : (a b c : ℕ) → f (f a b) c ≡ f a (f b c)

or_assoc : (a b c : ℕ) → bit_or (bit_or a b) c ≡ bit_or a (bit_or b c)
or_assoc a b c =
    same_from_bits (bit_or (bit_or a b) c) (bit_or a (bit_or b c)) (λ i.
    let x = bit_at_or (bit_or a b) c i in
    let y = bit_at_or a b i in
    let z = bit_at_or a (bit_or b c) i in
    let u = bit_at_or b c i in
    omega arith)

on_and : OnBits bit_and
on_and = record { lower = and_lt; remainder = and_mod; comm = and_comm; assoc = λ a b c. and_assoc c a b }

on_or : OnBits bit_or
on_or = record { lower = or_lt; remainder = or_mod; comm = or_comm; assoc = or_assoc }

on_xor : OnBits bit_xor
on_xor = record { lower = xor_lt; remainder = xor_mod; comm = xor_comm; assoc = xor_assoc }

-- the operator on the bits of two numbers of a kind
abbrev on_bits : (ℕ → ℕ → ℕ) → Kind → ℤ → ℤ → ℤ
on_bits f k m n = wrapped k (to_z (width_of (promoted2 k k)) (f (of_z (width_of (promoted2 k k)) m) (of_z (width_of (promoted2 k k)) n)))

on_bits_is : (f : ℕ → ℕ → ℕ) → OnBits f → (k : Kind) (m n : ℤ) → IsInRange k m → IsInRange k n → on_bits f k m n ≡ number k (f (bits_at k m) (bits_at k n))
on_bits_is f o k m n p q =
    let w = width_of (promoted2 k k) in
    let a = of_z w m in
    let b = of_z w n in
    number_of_bits k (to_z w (f a b))
    ∙ ap (number k)
    (wide_remainder k (f a b) (o.lower (bits w) a b (stored_below k m p) (stored_below k n q))
    ∙ o.remainder a b (size k) ∙ ap₂ f (stored_bits k m p) (stored_bits k n q))

on_bits_comm : (f : ℕ → ℕ → ℕ) → OnBits f → (k : Kind) (m n : ℤ) → on_bits f k m n ≡ on_bits f k n m
on_bits_comm f o k m n =
    let w = width_of (promoted2 k k) in ap (λ z. wrapped k (to_z w z)) (o.comm (of_z w m) (of_z w n))

on_bits_bits : (f : ℕ → ℕ → ℕ) → OnBits f → (k : Kind) (m n : ℤ) → IsInRange k m → IsInRange k n → bits_at k (on_bits f k m n) ≡ f (bits_at k m) (bits_at k n)
on_bits_bits f o k m n p q =
    ap (bits_at k) (on_bits_is f o k m n p q) ∙ number_bits k (f (bits_at k m) (bits_at k n)) (o.lower (size k) (bits_at k m) (bits_at k n) (bits_below k m) (bits_below k n))

on_bits_assoc :
    (f : ℕ → ℕ → ℕ) → OnBits f → (k : Kind) (l m n : ℤ) → IsInRange k l → IsInRange k m → IsInRange k n
    → on_bits f k (on_bits f k l m) n ≡ on_bits f k l (on_bits f k m n)
on_bits_assoc f o k l m n p q r =
    let w = width_of (promoted2 k k) in
    let lm = on_bits f k l m in
    let mn = on_bits f k m n in
    on_bits_is f o k lm n (wrapped_range k (to_z w (f (of_z w l) (of_z w m)))) r
    ∙ ap (number k)
    (ap (λ z. f z (bits_at k n)) (on_bits_bits f o k l m p q) ∙ o.assoc (bits_at k l) (bits_at k m) (bits_at k n)
    ∙ ap (f (bits_at k l)) (sym (on_bits_bits f o k m n q r)))
    ∙ sym (on_bits_is f o k l mn p (wrapped_range k (to_z w (f (of_z w m) (of_z w n)))))

-- ---- all operators

pub combined_range : (c : Combine) (k : Kind) (m n : ℤ) → IsInRange k m → IsInRange k n → IsInRange k (combined c k m n)
combined_range Add k m n p q = wrapped_range k (wrapped (promoted2 k k) (m +ℤ n))
combined_range Max k m n p q = one_of (int_le m n) k n m q p
combined_range Min k m n p q = one_of (int_le m n) k m n p q
combined_range And k m n p q = wrapped_range k (int_bit_and (width_of (promoted2 k k)) m n)
combined_range Or k m n p q = wrapped_range k (int_bit_or (width_of (promoted2 k k)) m n)
combined_range Xor k m n p q = wrapped_range k (int_bit_xor (width_of (promoted2 k k)) m n)

pub combined_comm : (c : Combine) (k : Kind) (m n : ℤ) → combined c k m n ≡ combined c k n m
combined_comm Add k m n = add_comm k m n
combined_comm Max k m n = max_comm k m n
combined_comm Min k m n = min_comm k m n
combined_comm And k m n = on_bits_comm bit_and on_and k m n
combined_comm Or k m n = on_bits_comm bit_or on_or k m n
combined_comm Xor k m n = on_bits_comm bit_xor on_xor k m n

pub combined_assoc :
    (c : Combine) (k : Kind) (l m n : ℤ) → IsInRange k l → IsInRange k m → IsInRange k n
    → combined c k (combined c k l m) n ≡ combined c k l (combined c k m n)
combined_assoc Add k l m n p q r = add_assoc k l m n
combined_assoc Max k l m n p q r = max_assoc k l m n
combined_assoc Min k l m n p q r = min_assoc k l m n
combined_assoc And k l m n p q r = on_bits_assoc bit_and on_and k l m n p q r
combined_assoc Or k l m n p q r = on_bits_assoc bit_or on_or k l m n p q r
combined_assoc Xor k l m n p q r = on_bits_assoc bit_xor on_xor k l m n p q r
