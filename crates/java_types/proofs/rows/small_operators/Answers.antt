use Rattle.std.proofs.Common.{refl}
use Rattle.java_types.proofs.rows.small_operators.Goals as goal

pub returns-clause-shift_of_a_long : goal.returns-clause-shift_of_a_long
returns-clause-shift_of_a_long c = refl

pub returns-clause-shift_by_a_long : goal.returns-clause-shift_by_a_long
returns-clause-shift_by_a_long c = refl

pub returns-clause-sum_of_booleans : goal.returns-clause-sum_of_booleans
returns-clause-sum_of_booleans c = refl

pub returns-clause-cast_of_a_boolean : goal.returns-clause-cast_of_a_boolean
returns-clause-cast_of_a_boolean c = refl

pub returns-clause-by_a_literal : goal.returns-clause-by_a_literal
returns-clause-by_a_literal c = refl

pub returns-clause-by_zero : goal.returns-clause-by_zero
returns-clause-by_zero c = refl

pub returns-clause-by_a_variable : goal.returns-clause-by_a_variable
returns-clause-by_a_variable c = refl

pub returns-clause-kinds_first : goal.returns-clause-kinds_first
returns-clause-kinds_first c = refl

pub returns-clause-minus_number : goal.returns-clause-minus_number
returns-clause-minus_number c = refl

pub returns-clause-minus_character : goal.returns-clause-minus_character
returns-clause-minus_character c = refl

pub returns-clause-minus_parentheses : goal.returns-clause-minus_parentheses
returns-clause-minus_parentheses c = refl

pub returns-clause-minus_in_parentheses : goal.returns-clause-minus_in_parentheses
returns-clause-minus_in_parentheses c = refl

pub returns-clause-cast_back : goal.returns-clause-cast_back
returns-clause-cast_back c = refl

pub returns-clause-cast_to_its_own : goal.returns-clause-cast_to_its_own
returns-clause-cast_to_its_own c = refl

pub returns-clause-boolean_with_a_number : goal.returns-clause-boolean_with_a_number
returns-clause-boolean_with_a_number c = refl
