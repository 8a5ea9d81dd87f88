-- Java's arithmetic on numbers of a kind: the exact whole number, wrapped in two's complement.
use Rattle.std.specs.Prelude.{ℕ, zero, ◌^◌, ◌/◌, ℤ, pos, ◌+ℤ◌, ◌-ℤ◌, ◌*ℤ◌, neg_ℤ, unsigned_abs, int_lt, int_le, int_div, int_rem, Bool, true, false, not, ◌&&◌, ◌||◌, ◌≢◌}
use Rattle.std.specs.Int.{Width, w8, w16, w32, w64, cast_unsigned, int_wrap, int_rem_euclid, int_shr, int_bit_and, int_bit_xor, int_bit_or}
use Rattle.std.specs.Ordering.{int_eq}
use Rattle.java_values.specs.declared.kind.Kind.{Kind}
use Rattle.java_values.specs.declared.kind.Kind.TheVariants.{Boolean, Byte, Short, Char, Int, Long}
use Rattle.java_values.specs.declared.op.Op1.{Op1}
use Rattle.java_values.specs.declared.op.Op1.TheVariants.{Plus, Minus, BitNot, Not}
use Rattle.java_values.specs.declared.op.Op2.{Op2}
use Rattle.java_values.specs.declared.op.Op2.TheVariants.{Mul, Div, Rem, Add, Sub, Shl, Shr, Ushr, Less, LessEq, Greater, GreaterEq, Equal, NotEqual, And, Xor, Or, Both, Either}
use Rattle.java_values.specs.declared.size.Size.{Size}
use Rattle.java_values.specs.declared.size.Size.TheVariants.{Int as SizeInt, Long as SizeLong}
use Rattle.java_values.specs.Kinds.{promoted, promoted2}

abbrev pub size_kind : Size → Kind
size_kind SizeInt = Int
size_kind SizeLong = Long

-- the one number of the kind that differs from n by a multiple of 2 to the power of the kind's bits
abbrev pub wrapped : Kind → ℤ → ℤ
wrapped Boolean n = int_rem_euclid n (pos 2)
wrapped Byte n = int_wrap w8 n
wrapped Short n = int_wrap w16 n
wrapped Char n = int_rem_euclid n (pos 65536)
wrapped Int n = int_wrap w32 n
wrapped Long n = int_wrap w64 n

-- the number after a cast to the kind
abbrev pub cast_to : Kind → ℤ → ℤ
cast_to k n = wrapped k n

-- 1 is true, and 0 is false
abbrev pub of_bool : Bool → ℤ
of_bool true = pos 1
of_bool false = pos 0

abbrev pub is_true : ℤ → Bool
is_true (pos zero) = false
is_true _ = true

-- rounded toward zero; 0 for a divisor of 0
abbrev pub quotient : ℤ → ℤ → ℤ
quotient m (pos zero) = pos 0
quotient m n = int_div m n

-- with the dividend's sign; 0 for a divisor of 0
abbrev pub remainder : ℤ → ℤ → ℤ
remainder m (pos zero) = pos 0
remainder m n = int_rem m n

-- the bits of an `int` or a `long`
abbrev pub width_of : Kind → Width
width_of Long = w64
width_of _ = w32

abbrev pub bits_of : Kind → ℕ
bits_of Long = 64
bits_of _ = 32

-- how far a number of this kind is shifted: the low 5 or 6 bits of n
abbrev pub distance : Kind → ℤ → ℕ
distance k n = unsigned_abs (int_rem_euclid n (pos (bits_of k)))

abbrev pub applied1 : Op1 → Kind → ℤ → ℤ
applied1 Plus k n = n
applied1 Minus k n = wrapped (promoted k) (neg_ℤ n)
applied1 BitNot k n = neg_ℤ n -ℤ pos 1
applied1 Not k n = of_bool (not (is_true n))

-- the kind in which the operator computes its operands: a shift looks at its left operand alone
abbrev pub working_kind : Op2 → Kind → Kind → Kind
working_kind Shl a b = promoted a
working_kind Shr a b = promoted a
working_kind Ushr a b = promoted a
working_kind _ a b = promoted2 a b

-- the operator on two numbers, computed in this kind
abbrev pub computed : Op2 → Kind → ℤ → ℤ → ℤ
computed Mul k m n = wrapped k (m *ℤ n)
computed Div k m n = wrapped k (quotient m n)
computed Rem k m n = wrapped k (remainder m n)
computed Add k m n = wrapped k (m +ℤ n)
computed Sub k m n = wrapped k (m -ℤ n)
computed Shl k m n = wrapped k (m *ℤ pos (2 ^ distance k n))
computed Shr k m n = int_shr m (distance k n)
computed Ushr k m n = wrapped k (pos (cast_unsigned (width_of k) m / 2 ^ distance k n))
computed Less k m n = of_bool (int_lt m n)
computed LessEq k m n = of_bool (int_le m n)
computed Greater k m n = of_bool (int_lt n m)
computed GreaterEq k m n = of_bool (int_le n m)
computed Equal k m n = of_bool (int_eq m n)
computed NotEqual k m n = of_bool (not (int_eq m n))
computed And k m n = int_bit_and (width_of k) m n
computed Xor k m n = int_bit_xor (width_of k) m n
computed Or k m n = int_bit_or (width_of k) m n
computed Both k m n = of_bool (is_true m && is_true n)
computed Either k m n = of_bool (is_true m || is_true n)

abbrev pub applied2 : Op2 → Kind → ℤ → Kind → ℤ → ℤ
applied2 op a m b n = computed op (working_kind op a b) m n

-- where the operator divides, the divisor isn't 0
abbrev pub HasDivisor : Op2 → ℤ → Type 0
HasDivisor Div n = n ≢ pos 0
HasDivisor Rem n = n ≢ pos 0
HasDivisor _ n = Unit {0}
