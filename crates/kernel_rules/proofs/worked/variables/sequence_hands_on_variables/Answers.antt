use Rattle.std.proofs.Common.{refl}
use Rattle.std.specs.Int.{int_wrap}
use Rattle.kernel_rules.proofs.SeenTicks.{shows}
use Rattle.kernel_rules.proofs.worked.variables.sequence_hands_on_variables.Goals as goal

pub returns-clause-twice : goal.returns-clause-twice
unfolding int_wrap
returns-clause-twice c = shows _ _ _ _ _ refl

pub returns-clause-sum : goal.returns-clause-sum
unfolding int_wrap
returns-clause-sum c = shows _ _ _ _ _ refl
