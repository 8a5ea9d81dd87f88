-- The kinds of values, their ranges, and the kinds that an operator takes and gives.
use Rattle.std.specs.Prelude.{ℤ, pos, negsuc, ◌≤ℤ◌, Bool, true, false, ◌&&◌, cond, Option, Some, None}
use Rattle.java_values.specs.declared.kind.Kind.{Kind}
use Rattle.java_values.specs.declared.kind.Kind.TheVariants.{Boolean, Byte, Short, Char, Int, Long}
use Rattle.java_values.specs.declared.op.Op1.{Op1}
use Rattle.java_values.specs.declared.op.Op1.TheVariants.{Not}
use Rattle.java_values.specs.declared.op.Op2.{Op2}
use Rattle.java_values.specs.declared.op.Op2.TheVariants.{Mul, Div, Rem, Add, Sub, Shl, Shr, Ushr, Less, LessEq, Greater, GreaterEq, Equal, NotEqual, And, Xor, Or, Both, Either}

-- the least number of the kind
abbrev pub lowest : Kind → ℤ
lowest Boolean = pos 0
lowest Byte = negsuc 127
lowest Short = negsuc 32767
lowest Char = pos 0
lowest Int = negsuc 2147483647
lowest Long = negsuc 9223372036854775807

-- the greatest number of the kind
abbrev pub highest : Kind → ℤ
highest Boolean = pos 1
highest Byte = pos 127
highest Short = pos 32767
highest Char = pos 65535
highest Int = pos 2147483647
highest Long = pos 9223372036854775807

-- the number is one of the kind
pub record IsInRange (k : Kind) (n : ℤ) : Type 0 where
  pub low : lowest k ≤ℤ n
  pub high : n ≤ℤ highest k

-- a value: a kind and a number
pub record TypedNumber : Type 0 where
  pub kind : Kind
  pub number : ℤ

-- each kind but `boolean`
abbrev pub is_integer : Kind → Bool
is_integer Boolean = false
is_integer Byte = true
is_integer Short = true
is_integer Char = true
is_integer Int = true
is_integer Long = true

-- the kind in which one operand is computed: `long` for `long`, else `int`
abbrev pub promoted : Kind → Kind
promoted Long = Long
promoted _ = Int

-- the kind in which two operands are computed: `long` if either is `long`, else `int`
abbrev pub promoted2 : Kind → Kind → Kind
promoted2 Long b = Long
promoted2 _ b = promoted b

-- the first kind's values are those of the second too, with no change of number
abbrev pub is_widened : Kind → Kind → Bool
is_widened Boolean Boolean = true
is_widened Byte Byte = true
is_widened Byte Short = true
is_widened Byte Int = true
is_widened Byte Long = true
is_widened Short Short = true
is_widened Short Int = true
is_widened Short Long = true
is_widened Char Char = true
is_widened Char Int = true
is_widened Char Long = true
is_widened Int Int = true
is_widened Int Long = true
is_widened Long Long = true
is_widened _ _ = false

-- both kinds are `boolean`
abbrev pub are_boolean : Kind → Kind → Bool
are_boolean Boolean Boolean = true
are_boolean _ _ = false

-- a kind can be cast to another: both are `boolean`, or neither is
abbrev pub is_castable : Kind → Kind → Bool
is_castable Boolean b = are_boolean Boolean b
is_castable _ b = is_integer b

-- integers give this kind, and other operands none
abbrev pub if_integers : Kind → Kind → Kind → Option Kind
if_integers a b k = cond (is_integer a && is_integer b) (Some k) None

-- two `boolean` give `boolean`, and other operands what is said of them
abbrev pub if_booleans : Kind → Kind → Option Kind → Option Kind
if_booleans a b other = cond (are_boolean a b) (Some Boolean) other

abbrev pub takes_booleans : Op2 → Bool
takes_booleans Equal = true
takes_booleans NotEqual = true
takes_booleans And = true
takes_booleans Xor = true
takes_booleans Or = true
takes_booleans Both = true
takes_booleans Either = true
takes_booleans _ = false

-- the kind of the result of an operator with one operand, where it takes this kind
abbrev pub result_kind1 : Op1 → Kind → Option Kind
result_kind1 Not k = if_booleans k k None
result_kind1 _ k = if_integers k k (promoted k)

-- the kind of the result of an operator with two operands, where it takes these kinds
abbrev pub result_kind2 : Op2 → Kind → Kind → Option Kind
result_kind2 Mul a b = if_integers a b (promoted2 a b)
result_kind2 Div a b = if_integers a b (promoted2 a b)
result_kind2 Rem a b = if_integers a b (promoted2 a b)
result_kind2 Add a b = if_integers a b (promoted2 a b)
result_kind2 Sub a b = if_integers a b (promoted2 a b)
result_kind2 Shl a b = if_integers a b (promoted a)
result_kind2 Shr a b = if_integers a b (promoted a)
result_kind2 Ushr a b = if_integers a b (promoted a)
result_kind2 Less a b = if_integers a b Boolean
result_kind2 LessEq a b = if_integers a b Boolean
result_kind2 Greater a b = if_integers a b Boolean
result_kind2 GreaterEq a b = if_integers a b Boolean
result_kind2 Equal a b = if_booleans a b (if_integers a b Boolean)
result_kind2 NotEqual a b = if_booleans a b (if_integers a b Boolean)
result_kind2 And a b = if_booleans a b (if_integers a b (promoted2 a b))
result_kind2 Xor a b = if_booleans a b (if_integers a b (promoted2 a b))
result_kind2 Or a b = if_booleans a b (if_integers a b (promoted2 a b))
result_kind2 Both a b = if_booleans a b None
result_kind2 Either a b = if_booleans a b None
