use Rattle.std.proofs.Common.{refl}
use Rattle.std.specs.Int.{int_wrap}
use Rattle.kernel_rules.proofs.SeenTicks.{shows}
use Rattle.kernel_rules.proofs.worked.aborts.suspend_is_armed_after_its_start.Goals as goal

pub returns-clause-stays : goal.returns-clause-stays
returns-clause-stays c = shows _ _ _ _ _ refl

pub returns-clause-assigns : goal.returns-clause-assigns
unfolding int_wrap
returns-clause-assigns c = shows _ _ _ _ _ refl
