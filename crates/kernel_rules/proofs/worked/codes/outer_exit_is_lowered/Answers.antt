use Rattle.std.proofs.Common.{refl}
use Rattle.kernel_rules.proofs.SeenTicks.{shows}
use Rattle.kernel_rules.proofs.worked.codes.outer_exit_is_lowered.Goals as goal

pub returns-clause-inner : goal.returns-clause-inner
returns-clause-inner c = shows _ _ _ _ _ refl

pub returns-clause-outer : goal.returns-clause-outer
returns-clause-outer c = shows _ _ _ _ _ refl

pub returns-clause-further : goal.returns-clause-further
returns-clause-further c = shows _ _ _ _ _ refl

pub returns-clause-last : goal.returns-clause-last
returns-clause-last c = shows _ _ _ _ _ refl
