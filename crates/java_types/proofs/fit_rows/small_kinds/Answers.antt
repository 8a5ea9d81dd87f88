use Rattle.std.proofs.Common.{refl}
use Rattle.java_types.proofs.fit_rows.small_kinds.Goals as goal

pub returns-clause-greatest_byte : goal.returns-clause-greatest_byte
returns-clause-greatest_byte c = refl

pub returns-clause-past_a_byte : goal.returns-clause-past_a_byte
returns-clause-past_a_byte c = refl

pub returns-clause-least_byte : goal.returns-clause-least_byte
returns-clause-least_byte c = refl

pub returns-clause-below_a_byte : goal.returns-clause-below_a_byte
returns-clause-below_a_byte c = refl

pub returns-clause-variable : goal.returns-clause-variable
returns-clause-variable c = refl

pub returns-clause-variable_as_another_kind : goal.returns-clause-variable_as_another_kind
returns-clause-variable_as_another_kind c = refl

pub returns-clause-variable_of_another_domain : goal.returns-clause-variable_of_another_domain
returns-clause-variable_of_another_domain c = refl

pub returns-clause-channel : goal.returns-clause-channel
returns-clause-channel c = refl

pub returns-clause-channel_as_another_kind : goal.returns-clause-channel_as_another_kind
returns-clause-channel_as_another_kind c = refl

pub returns-clause-channel_in_its_sender : goal.returns-clause-channel_in_its_sender
returns-clause-channel_in_its_sender c = refl

pub returns-clause-sum_of_bytes : goal.returns-clause-sum_of_bytes
returns-clause-sum_of_bytes c = refl

pub returns-clause-sum_as_a_byte : goal.returns-clause-sum_as_a_byte
returns-clause-sum_as_a_byte c = refl

pub returns-clause-sum_with_a_long : goal.returns-clause-sum_with_a_long
returns-clause-sum_with_a_long c = refl

pub returns-clause-sum_with_a_long_as_an_int : goal.returns-clause-sum_with_a_long_as_an_int
returns-clause-sum_with_a_long_as_an_int c = refl

pub returns-clause-shift_by_a_long : goal.returns-clause-shift_by_a_long
returns-clause-shift_by_a_long c = refl

pub returns-clause-shift_as_a_long : goal.returns-clause-shift_as_a_long
returns-clause-shift_as_a_long c = refl

pub returns-clause-comparison : goal.returns-clause-comparison
returns-clause-comparison c = refl

pub returns-clause-comparison_as_an_int : goal.returns-clause-comparison_as_an_int
returns-clause-comparison_as_an_int c = refl

pub returns-clause-minus_of_a_byte : goal.returns-clause-minus_of_a_byte
returns-clause-minus_of_a_byte c = refl

pub returns-clause-minus_as_a_byte : goal.returns-clause-minus_as_a_byte
returns-clause-minus_as_a_byte c = refl
