use Rattle.std.proofs.Common.{refl}
use Rattle.std.specs.Int.{int_wrap}
use Rattle.kernel_rules.proofs.worked.readings.operators_have_their_values.Goals as goal

pub returns-clause-numbers : goal.returns-clause-numbers
unfolding int_wrap
returns-clause-numbers c = refl

pub returns-clause-less : goal.returns-clause-less
unfolding int_wrap
returns-clause-less c = refl

pub returns-clause-equal : goal.returns-clause-equal
unfolding int_wrap
returns-clause-equal c = refl

pub returns-clause-greater : goal.returns-clause-greater
unfolding int_wrap
returns-clause-greater c = refl

pub returns-clause-bits : goal.returns-clause-bits
unfolding int_wrap
returns-clause-bits c = refl

pub returns-clause-bits_of_minus_one : goal.returns-clause-bits_of_minus_one
unfolding int_wrap
returns-clause-bits_of_minus_one c = refl

pub returns-clause-neither : goal.returns-clause-neither
unfolding int_wrap
returns-clause-neither c = refl

pub returns-clause-first : goal.returns-clause-first
unfolding int_wrap
returns-clause-first c = refl

pub returns-clause-second : goal.returns-clause-second
unfolding int_wrap
returns-clause-second c = refl

pub returns-clause-both : goal.returns-clause-both
unfolding int_wrap
returns-clause-both c = refl

pub returns-clause-one_operand : goal.returns-clause-one_operand
unfolding int_wrap
returns-clause-one_operand c = refl

pub returns-clause-inverse : goal.returns-clause-inverse
unfolding int_wrap
returns-clause-inverse c = refl

pub returns-clause-casts : goal.returns-clause-casts
unfolding int_wrap
returns-clause-casts c = refl
