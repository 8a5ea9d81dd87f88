use Rattle.std.proofs.Common.{pos, refl}
use Rattle.java_values.specs.declared.kind.Kind.TheVariants as kind
use Rattle.java_types.proofs.SmallTreeLemmas.{gives_cast, gives_left, gives_minus, gives_quotient, gives_right}
use Rattle.java_types.proofs.fit_rows.small_operands.Goals as goal

pub returns-clause-sum_of_booleans : goal.returns-clause-sum_of_booleans
returns-clause-sum_of_booleans c = refl

pub returns-clause-both_of_booleans : goal.returns-clause-both_of_booleans
returns-clause-both_of_booleans c = refl

pub returns-clause-both_of_numbers : goal.returns-clause-both_of_numbers
returns-clause-both_of_numbers c = refl

pub returns-clause-equal_booleans : goal.returns-clause-equal_booleans
returns-clause-equal_booleans c = refl

pub returns-clause-boolean_with_a_number : goal.returns-clause-boolean_with_a_number
returns-clause-boolean_with_a_number c = refl

pub returns-clause-not : goal.returns-clause-not
returns-clause-not c = refl

pub returns-clause-not_of_a_number : goal.returns-clause-not_of_a_number
returns-clause-not_of_a_number c = refl

pub returns-clause-cast_of_a_number : goal.returns-clause-cast_of_a_number
returns-clause-cast_of_a_number c = refl

pub returns-clause-cast_of_a_boolean : goal.returns-clause-cast_of_a_boolean
returns-clause-cast_of_a_boolean c = refl

pub returns-clause-under_a_minus : goal.returns-clause-under_a_minus
returns-clause-under_a_minus c = refl

pub returns-clause-on_the_left : goal.returns-clause-on_the_left
returns-clause-on_the_left c = refl

pub returns-clause-on_the_right : goal.returns-clause-on_the_right
returns-clause-on_the_right c = refl

pub returns-clause-in_a_cast : goal.returns-clause-in_a_cast
returns-clause-in_a_cast c = refl

pub returns-clause-quotient : goal.returns-clause-quotient
returns-clause-quotient c = gives_quotient kind.Int (pos 2)

pub returns-clause-quotient_by_zero : goal.returns-clause-quotient_by_zero
returns-clause-quotient_by_zero c = gives_quotient kind.Int (pos 0)

pub returns-clause-quotient_for_a_byte : goal.returns-clause-quotient_for_a_byte
returns-clause-quotient_for_a_byte c = gives_quotient kind.Byte (pos 2)

pub returns-clause-minus_of_a_quotient : goal.returns-clause-minus_of_a_quotient
returns-clause-minus_of_a_quotient c = gives_minus kind.Int (pos 2)

pub returns-clause-minus_of_one_by_zero : goal.returns-clause-minus_of_one_by_zero
returns-clause-minus_of_one_by_zero c = gives_minus kind.Int (pos 0)

pub returns-clause-left_quotient : goal.returns-clause-left_quotient
returns-clause-left_quotient c = gives_left kind.Int (pos 2)

pub returns-clause-left_by_zero : goal.returns-clause-left_by_zero
returns-clause-left_by_zero c = gives_left kind.Int (pos 0)

pub returns-clause-right_quotient : goal.returns-clause-right_quotient
returns-clause-right_quotient c = gives_right kind.Int (pos 2)

pub returns-clause-right_by_zero : goal.returns-clause-right_by_zero
returns-clause-right_by_zero c = gives_right kind.Int (pos 0)

pub returns-clause-cast_of_a_quotient : goal.returns-clause-cast_of_a_quotient
returns-clause-cast_of_a_quotient c = gives_cast kind.Byte (pos 2)

pub returns-clause-cast_of_one_by_zero : goal.returns-clause-cast_of_one_by_zero
returns-clause-cast_of_one_by_zero c = gives_cast kind.Byte (pos 0)
