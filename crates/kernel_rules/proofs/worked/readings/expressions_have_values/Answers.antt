use Rattle.std.proofs.Common.{refl}
use Rattle.std.specs.Int.{int_wrap}
use Rattle.kernel_rules.proofs.worked.readings.expressions_have_values.Goals as goal

pub returns-clause-number : goal.returns-clause-number
unfolding int_wrap
returns-clause-number c = refl

pub returns-clause-variable : goal.returns-clause-variable
unfolding int_wrap
returns-clause-variable c = refl

pub returns-clause-other_variable : goal.returns-clause-other_variable
unfolding int_wrap
returns-clause-other_variable c = refl

pub returns-clause-signal : goal.returns-clause-signal
unfolding int_wrap
returns-clause-signal c = refl

pub returns-clause-other_signal : goal.returns-clause-other_signal
unfolding int_wrap
returns-clause-other_signal c = refl

pub returns-clause-channel : goal.returns-clause-channel
unfolding int_wrap
returns-clause-channel c = refl

pub returns-clause-other_channel : goal.returns-clause-other_channel
unfolding int_wrap
returns-clause-other_channel c = refl

pub returns-clause-minus : goal.returns-clause-minus
unfolding int_wrap
returns-clause-minus c = refl

pub returns-clause-inverse : goal.returns-clause-inverse
unfolding int_wrap
returns-clause-inverse c = refl

pub returns-clause-difference : goal.returns-clause-difference
unfolding int_wrap
returns-clause-difference c = refl

pub returns-clause-cast : goal.returns-clause-cast
unfolding int_wrap
returns-clause-cast c = refl
