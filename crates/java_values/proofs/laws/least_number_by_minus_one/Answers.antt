use Rattle.std.proofs.Common.{refl}
use Rattle.std.specs.Int.{int_wrap}
use Rattle.java_values.proofs.laws.least_number_by_minus_one.Goals as goal

pub returns-clause-int : goal.returns-clause-int
unfolding int_wrap
returns-clause-int c = refl

pub returns-clause-long : goal.returns-clause-long
unfolding int_wrap
returns-clause-long c = refl

pub returns-clause-negated : goal.returns-clause-negated
unfolding int_wrap
returns-clause-negated c = refl
