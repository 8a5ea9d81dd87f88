use Rattle.std.proofs.Common.{refl}
use Rattle.std.specs.Int.{int_wrap}
use Rattle.kernel_rules.proofs.SeenTicks.{shows}
use Rattle.kernel_rules.proofs.worked.readings.statements_read_the_tick.Goals as goal

pub returns-clause-emission : goal.returns-clause-emission
unfolding int_wrap
returns-clause-emission c = shows _ _ _ _ _ refl

pub returns-clause-assignment : goal.returns-clause-assignment
unfolding int_wrap
returns-clause-assignment c = shows _ _ _ _ _ refl

pub returns-clause-condition : goal.returns-clause-condition
unfolding int_wrap
returns-clause-condition c = shows _ _ _ _ _ refl
