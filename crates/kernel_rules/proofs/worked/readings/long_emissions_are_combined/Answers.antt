use Rattle.std.proofs.Common.{refl}
use Rattle.std.specs.Int.{int_wrap}
use Rattle.kernel_rules.proofs.worked.readings.long_emissions_are_combined.Goals as goal

pub returns-clause-add : goal.returns-clause-add
unfolding int_wrap
returns-clause-add c = refl

pub returns-clause-add_wraps : goal.returns-clause-add_wraps
unfolding int_wrap
returns-clause-add_wraps c = refl

pub returns-clause-greatest : goal.returns-clause-greatest
unfolding int_wrap
returns-clause-greatest c = refl

pub returns-clause-least : goal.returns-clause-least
unfolding int_wrap
returns-clause-least c = refl

pub returns-clause-bits_and : goal.returns-clause-bits_and
unfolding int_wrap
returns-clause-bits_and c = refl

pub returns-clause-bits_or : goal.returns-clause-bits_or
unfolding int_wrap
returns-clause-bits_or c = refl

pub returns-clause-bits_xor : goal.returns-clause-bits_xor
unfolding int_wrap
returns-clause-bits_xor c = refl
