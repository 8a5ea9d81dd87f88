-- The number of an operation lies in the kind of its result.
use Rattle.std.proofs.Common.{rules, ◌≡◌, ℕ, ◌^◌, ◌/◌, ℤ, pos, neg_ℤ, ◌+ℤ◌, ◌-ℤ◌, ◌*ℤ◌, Bool, true, false, not, ◌&&◌, ◌||◌, cond, Some, None, ◌⊎◌, inl, inr, sym, subst}
use Rattle.std.specs.Prelude.{int_lt, int_le}
use Rattle.std.specs.Ordering.{int_eq}
use Rattle.std.specs.Int.{Width, w32, w64, cast_unsigned, int_shr, int_bit_and, int_bit_or, int_bit_xor}
use Rattle.java_values.specs.declared.kind.Kind.{Kind}
use Rattle.java_values.specs.declared.kind.Kind.TheVariants.{Boolean, Byte, Short, Char, Int, Long}
use Rattle.java_values.specs.declared.op.Op1.{Op1}
use Rattle.java_values.specs.declared.op.Op1.TheVariants as op1
use Rattle.java_values.specs.declared.op.Op2.{Op2}
use Rattle.java_values.specs.declared.op.Op2.TheVariants as op2
use Rattle.java_values.specs.Kinds.{IsInRange, is_integer, are_boolean, promoted, promoted2, result_kind1, result_kind2}
use Rattle.java_values.specs.Arithmetic.{is_true, of_bool, wrapped, quotient, remainder, applied1, applied2, distance, width_of}
use Rattle.java_values.proofs.InRangeLemmas.{wrapped_range}
use Rattle.tick_code.proofs.RangeLemmas.{if_kind, truth_range, widened, complement_int, complement_long, shr_int, shr_long, and_int, and_long, xor_int, xor_long, or_int, or_long, and_bits, xor_bits, or_bits, both_integers, widened_left, promoted_is, promoted2_is}

widened_long : (k : Kind) (n : ℤ) → IsInRange k n → is_integer k ≡ true → IsInRange Long n
widened_long Boolean n h i = search rules
widened_long Byte n h i = search rules
widened_long Short n h i = search rules
widened_long Char n h i = search rules
widened_long Int n h i = search rules
widened_long Long n h i = h

widened_right : (k l : Kind) (n : ℤ) → IsInRange l n → is_integer l ≡ true → IsInRange (promoted2 k l) n
widened_right Long l n h i = widened_long l n h i
widened_right Boolean l n h i = widened l n h i
widened_right Byte l n h i = widened l n h i
widened_right Short l n h i = widened l n h i
widened_right Char l n h i = widened l n h i
widened_right Int l n h i = widened l n h i

by_size : (p : Kind) (n m : ℤ) → (p ≡ Int) ⊎ (p ≡ Long) → (IsInRange Int n → IsInRange Int m) → (IsInRange Long n → IsInRange Long m) → IsInRange p n → IsInRange p m
by_size p n m (inl e) i l = subst (λ x. IsInRange x n → IsInRange x m) (sym e) i
by_size p n m (inr e) i l = subst (λ x. IsInRange x n → IsInRange x m) (sym e) l

wrapped_is : (t : Bool) (p m : Kind) (z : ℤ) → cond t (Some p) None ≡ Some m → IsInRange m (wrapped p z)
wrapped_is t p m z e = let k = if_kind t p m e in subst (λ x. IsInRange x (wrapped p z)) k.1 (wrapped_range p z)

truth_is : (t : Bool) (m : Kind) (b : Bool) → cond t (Some Boolean) None ≡ Some m → IsInRange m (of_bool b)
truth_is t m b e = let k = if_kind t Boolean m e in subst (λ x. IsInRange x (of_bool b)) k.1 (truth_range b)

some_is : (p m : Kind) → Some p ≡ Some m → p ≡ m
some_is p m e = search rules

truth_of_either : (s t : Bool) (m : Kind) (b : Bool) → cond s (Some Boolean) (cond t (Some Boolean) None) ≡ Some m → IsInRange m (of_bool b)
truth_of_either true t m b e = subst (λ x. IsInRange x (of_bool b)) (some_is Boolean m e) (truth_range b)
truth_of_either false t m b e = truth_is t m b e

pub applied1_range : (op : Op1) (k m : Kind) (n : ℤ) → IsInRange k n → result_kind1 op k ≡ Some m → IsInRange m (applied1 op k n)
applied1_range op1.Plus k m n h e =
    let i = if_kind (is_integer k && is_integer k) (promoted k) m e in
    subst (λ x. IsInRange x n) i.1 (widened k n h (both_integers k k i.0).0)
applied1_range op1.Minus k m n h e = wrapped_is (is_integer k && is_integer k) (promoted k) m (neg_ℤ n) e
applied1_range op1.BitNot k m n h e =
    let i = if_kind (is_integer k && is_integer k) (promoted k) m e in
    let wide = widened k n h (both_integers k k i.0).0 in
    subst (λ x. IsInRange x (neg_ℤ n -ℤ pos 1)) i.1 (by_size (promoted k) n (neg_ℤ n -ℤ pos 1) (promoted_is k) (complement_int n) (complement_long n) wide)
applied1_range op1.Not k m n h e = truth_is (are_boolean k k) m (not (is_true n)) e

shr_range : (k l m : Kind) (a : ℤ) (d : ℕ) → IsInRange k a → cond (is_integer k && is_integer l) (Some (promoted k)) None ≡ Some m → IsInRange m (int_shr a d)
shr_range k l m a d h e =
    let i = if_kind (is_integer k && is_integer l) (promoted k) m e in
    let wide = widened k a h (both_integers k l i.0).0 in
    subst (λ x. IsInRange x (int_shr a d)) i.1 (by_size (promoted k) a (int_shr a d) (promoted_is k) (shr_int a d) (shr_long a d) wide)

sized_bits : (f : Width → ℤ → ℤ → ℤ) (p : Kind) (a b : ℤ) → (p ≡ Int) ⊎ (p ≡ Long) → (IsInRange Int a → IsInRange Int b → IsInRange Int (f w32 a b)) → (IsInRange Long a → IsInRange Long b → IsInRange Long (f w64 a b)) → IsInRange p a → IsInRange p b → IsInRange p (f (width_of p) a b)
sized_bits f p a b (inl e) i l = subst (λ x. IsInRange x a → IsInRange x b → IsInRange x (f (width_of x) a b)) (sym e) i
sized_bits f p a b (inr e) i l = subst (λ x. IsInRange x a → IsInRange x b → IsInRange x (f (width_of x) a b)) (sym e) l

integer_bits : (f : Width → ℤ → ℤ → ℤ) (k l m : Kind) (a b : ℤ) → (IsInRange Int a → IsInRange Int b → IsInRange Int (f w32 a b)) → (IsInRange Long a → IsInRange Long b → IsInRange Long (f w64 a b)) → IsInRange k a → IsInRange l b → cond (is_integer k && is_integer l) (Some (promoted2 k l)) None ≡ Some m → IsInRange m (f (width_of (promoted2 k l)) a b)
integer_bits f k l m a b pi pl h g e =
    let i = if_kind (is_integer k && is_integer l) (promoted2 k l) m e in
    let both = both_integers k l i.0 in
    let left = widened_left k l a h both.0 in
    let right = widened_right k l b g both.1 in
    subst (λ x. IsInRange x (f (width_of (promoted2 k l)) a b)) i.1 (sized_bits f (promoted2 k l) a b (promoted2_is k l) pi pl left right)

bit_range : (f : Width → ℤ → ℤ → ℤ) (k l m : Kind) (a b : ℤ) → (IsInRange Boolean a → IsInRange Boolean b → IsInRange Boolean (f w32 a b)) → (IsInRange Int a → IsInRange Int b → IsInRange Int (f w32 a b)) → (IsInRange Long a → IsInRange Long b → IsInRange Long (f w64 a b)) → IsInRange k a → IsInRange l b → cond (are_boolean k l) (Some Boolean) (cond (is_integer k && is_integer l) (Some (promoted2 k l)) None) ≡ Some m → IsInRange m (f (width_of (promoted2 k l)) a b)
bit_range f Boolean Boolean m a b pb pi pl h g e = subst (λ x. IsInRange x (f w32 a b)) (some_is Boolean m e) (pb h g)
bit_range f Boolean Byte m a b pb pi pl h g e = search rules
bit_range f Boolean Short m a b pb pi pl h g e = search rules
bit_range f Boolean Char m a b pb pi pl h g e = search rules
bit_range f Boolean Int m a b pb pi pl h g e = search rules
bit_range f Boolean Long m a b pb pi pl h g e = search rules
bit_range f Byte l m a b pb pi pl h g e = integer_bits f Byte l m a b pi pl h g e
bit_range f Short l m a b pb pi pl h g e = integer_bits f Short l m a b pi pl h g e
bit_range f Char l m a b pb pi pl h g e = integer_bits f Char l m a b pi pl h g e
bit_range f Int l m a b pb pi pl h g e = integer_bits f Int l m a b pi pl h g e
bit_range f Long l m a b pb pi pl h g e = integer_bits f Long l m a b pi pl h g e

pub applied2_range : (op : Op2) (k l m : Kind) (a b : ℤ) → IsInRange k a → IsInRange l b → result_kind2 op k l ≡ Some m → IsInRange m (applied2 op k a l b)
applied2_range op2.Mul k l m a b h g e = wrapped_is (is_integer k && is_integer l) (promoted2 k l) m (a *ℤ b) e
applied2_range op2.Div k l m a b h g e = wrapped_is (is_integer k && is_integer l) (promoted2 k l) m (quotient a b) e
applied2_range op2.Rem k l m a b h g e = wrapped_is (is_integer k && is_integer l) (promoted2 k l) m (remainder a b) e
applied2_range op2.Add k l m a b h g e = wrapped_is (is_integer k && is_integer l) (promoted2 k l) m (a +ℤ b) e
applied2_range op2.Sub k l m a b h g e = wrapped_is (is_integer k && is_integer l) (promoted2 k l) m (a -ℤ b) e
applied2_range op2.Shl k l m a b h g e = wrapped_is (is_integer k && is_integer l) (promoted k) m (a *ℤ pos (2 ^ distance (promoted k) b)) e
applied2_range op2.Shr k l m a b h g e = shr_range k l m a (distance (promoted k) b) h e
applied2_range op2.Ushr k l m a b h g e = wrapped_is (is_integer k && is_integer l) (promoted k) m (pos (cast_unsigned (width_of (promoted k)) a / 2 ^ distance (promoted k) b)) e
applied2_range op2.Less k l m a b h g e = truth_is (is_integer k && is_integer l) m (int_lt a b) e
applied2_range op2.LessEq k l m a b h g e = truth_is (is_integer k && is_integer l) m (int_le a b) e
applied2_range op2.Greater k l m a b h g e = truth_is (is_integer k && is_integer l) m (int_lt b a) e
applied2_range op2.GreaterEq k l m a b h g e = truth_is (is_integer k && is_integer l) m (int_le b a) e
applied2_range op2.Equal k l m a b h g e = truth_of_either (are_boolean k l) (is_integer k && is_integer l) m (int_eq a b) e
applied2_range op2.NotEqual k l m a b h g e = truth_of_either (are_boolean k l) (is_integer k && is_integer l) m (not (int_eq a b)) e
applied2_range op2.And k l m a b h g e = bit_range int_bit_and k l m a b (and_bits a b) (and_int a b) (and_long a b) h g e
applied2_range op2.Xor k l m a b h g e = bit_range int_bit_xor k l m a b (xor_bits a b) (xor_int a b) (xor_long a b) h g e
applied2_range op2.Or k l m a b h g e = bit_range int_bit_or k l m a b (or_bits a b) (or_int a b) (or_long a b) h g e
applied2_range op2.Both k l m a b h g e = truth_is (are_boolean k l) m (is_true a && is_true b) e
applied2_range op2.Either k l m a b h g e = truth_is (are_boolean k l) m (is_true a || is_true b) e
