use Rattle.std.proofs.Common.{refl}
use Rattle.kernel_rules.proofs.SeenTicks.{shows}
use Rattle.kernel_rules.proofs.worked.variables.branches_read_old_variables.Goals as goal

pub returns-clause-second : goal.returns-clause-second
returns-clause-second c = shows _ _ _ _ _ refl

pub returns-clause-first : goal.returns-clause-first
returns-clause-first c = shows _ _ _ _ _ refl

pub returns-clause-order : goal.returns-clause-order
returns-clause-order c = shows _ _ _ _ _ refl

pub returns-clause-later_order : goal.returns-clause-later_order
returns-clause-later_order c = shows _ _ _ _ _ refl
