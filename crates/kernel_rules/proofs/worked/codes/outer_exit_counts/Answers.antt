use Rattle.std.proofs.Common.{refl}
use Rattle.kernel_rules.proofs.SeenTicks.{shows}
use Rattle.kernel_rules.proofs.worked.codes.outer_exit_counts.Goals as goal

pub returns-clause-first : goal.returns-clause-first
returns-clause-first c = shows _ _ _ _ _ refl

pub returns-clause-second : goal.returns-clause-second
returns-clause-second c = shows _ _ _ _ _ refl

pub returns-clause-inner : goal.returns-clause-inner
returns-clause-inner c = shows _ _ _ _ _ refl
