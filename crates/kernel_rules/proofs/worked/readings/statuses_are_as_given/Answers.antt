use Rattle.std.proofs.Common.{refl}
use Rattle.std.specs.Int.{int_wrap}
use Rattle.kernel_rules.proofs.worked.readings.statuses_are_as_given.Goals as goal

pub returns-clause-handed : goal.returns-clause-handed
unfolding int_wrap
returns-clause-handed c = refl

pub returns-clause-not_handed : goal.returns-clause-not_handed
unfolding int_wrap
returns-clause-not_handed c = refl

pub returns-clause-emitted : goal.returns-clause-emitted
unfolding int_wrap
returns-clause-emitted c = refl

pub returns-clause-emitted_once : goal.returns-clause-emitted_once
unfolding int_wrap
returns-clause-emitted_once c = refl

pub returns-clause-not_emitted : goal.returns-clause-not_emitted
unfolding int_wrap
returns-clause-not_emitted c = refl

pub returns-clause-shows : goal.returns-clause-shows
unfolding int_wrap
returns-clause-shows c = refl

pub returns-clause-shows_nothing : goal.returns-clause-shows_nothing
unfolding int_wrap
returns-clause-shows_nothing c = refl

pub returns-clause-put : goal.returns-clause-put
unfolding int_wrap
returns-clause-put c = refl

pub returns-clause-left : goal.returns-clause-left
unfolding int_wrap
returns-clause-left c = refl
