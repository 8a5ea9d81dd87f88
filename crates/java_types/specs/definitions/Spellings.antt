-- Literals, as they are written: which of them may be divisors, and which are given to a narrower kind.
use Rattle.std.specs.Prelude.{ℤ, pos, neg_ℤ, Bool, true, false, ◌&&◌, not, int_le}
use Rattle.std.specs.Ordering.{int_eq}
use Rattle.java_values.specs.declared.kind.Kind.{Kind}
use Rattle.java_values.specs.declared.kind.Kind.TheVariants as kind
use Rattle.java_values.specs.declared.op.Op1.{Op1}
use Rattle.java_values.specs.declared.op.Op1.TheVariants as op1
use Rattle.java_values.specs.Kinds.{TypedNumber, lowest, highest, is_integer}
use Rattle.java_types.specs.declared.operand.Spelling.{Spelling}
use Rattle.java_types.specs.declared.operand.Spelling.TheVariants as spelling

-- in parentheses
abbrev pub grouped : Spelling → Spelling
grouped (spelling.Literal v) = spelling.Grouped v
grouped s = s

-- behind a minus
abbrev pub negated : Spelling → Spelling
negated (spelling.Literal v) = spelling.Minus v
negated (spelling.Grouped v) = spelling.MinusGrouped v
negated _ = spelling.Other

abbrev pub unary_spelling : Op1 → Spelling → Spelling
unary_spelling op1.Minus s = negated s
unary_spelling _ s = spelling.Other

abbrev pub is_number_kind : Kind → Bool
is_number_kind kind.Int = true
is_number_kind kind.Long = true
is_number_kind _ = false

abbrev pub is_zero : TypedNumber → Bool
is_zero v = int_eq v.number (pos 0)

-- A divisor is an integer or character literal other than 0, or a minus right before an integer literal other than 0.
abbrev pub spells_divisor : Spelling → Bool
spells_divisor (spelling.Literal v) = is_integer v.kind && not (is_zero v)
spells_divisor (spelling.Grouped v) = is_integer v.kind && not (is_zero v)
spells_divisor (spelling.Minus v) = is_number_kind v.kind && not (is_zero v)
spells_divisor (spelling.MinusGrouped v) = false
spells_divisor (spelling.Least v) = is_integer v.kind && not (is_zero v)
spells_divisor spelling.Other = false

abbrev pub may_narrow : Kind → Bool
may_narrow kind.Int = true
may_narrow kind.Char = true
may_narrow _ = false

-- an integer kind whose range holds the number
abbrev pub holds : Kind → ℤ → Bool
holds k n = is_integer k && (int_le (lowest k) n && int_le n (highest k))

-- An `int` or `char` literal, also behind one minus, is given to an integer kind whose range holds its number.
abbrev pub is_given_to : Kind → Spelling → Bool
is_given_to k (spelling.Literal v) = may_narrow v.kind && holds k v.number
is_given_to k (spelling.Grouped v) = may_narrow v.kind && holds k v.number
is_given_to k (spelling.Minus v) = may_narrow v.kind && holds k (neg_ℤ v.number)
is_given_to k (spelling.MinusGrouped v) = may_narrow v.kind && holds k (neg_ℤ v.number)
is_given_to k _ = false
