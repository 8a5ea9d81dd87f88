use Rattle.std.proofs.Common.{refl}
use Rattle.std.specs.Int.{int_wrap}
use Rattle.kernel_rules.proofs.worked.readings.operands_have_kinds.Goals as goal

pub returns-clause-bytes : goal.returns-clause-bytes
unfolding int_wrap
returns-clause-bytes c = refl

pub returns-clause-ints : goal.returns-clause-ints
unfolding int_wrap
returns-clause-ints c = refl

pub returns-clause-first_long : goal.returns-clause-first_long
unfolding int_wrap
returns-clause-first_long c = refl

pub returns-clause-second_long : goal.returns-clause-second_long
unfolding int_wrap
returns-clause-second_long c = refl

pub returns-clause-minus_int : goal.returns-clause-minus_int
unfolding int_wrap
returns-clause-minus_int c = refl

pub returns-clause-minus_long : goal.returns-clause-minus_long
unfolding int_wrap
returns-clause-minus_long c = refl

pub returns-clause-shifted_int : goal.returns-clause-shifted_int
unfolding int_wrap
returns-clause-shifted_int c = refl

pub returns-clause-shifted_long : goal.returns-clause-shifted_long
unfolding int_wrap
returns-clause-shifted_long c = refl

pub returns-clause-forms_of_int : goal.returns-clause-forms_of_int
unfolding int_wrap
returns-clause-forms_of_int c = refl

pub returns-clause-forms_of_long : goal.returns-clause-forms_of_long
unfolding int_wrap
returns-clause-forms_of_long c = refl
