use Rattle.std.proofs.Common.{refl}
use Rattle.kernel_rules.proofs.SeenTicks.{shows}
use Rattle.kernel_rules.proofs.worked.codes.parallel_ends_with_its_last_branch.Goals as goal

pub returns-clause-both : goal.returns-clause-both
returns-clause-both c = shows _ _ _ _ _ refl

pub returns-clause-first : goal.returns-clause-first
returns-clause-first c = shows _ _ _ _ _ refl

pub returns-clause-second : goal.returns-clause-second
returns-clause-second c = shows _ _ _ _ _ refl

pub returns-clause-then : goal.returns-clause-then
returns-clause-then c = shows _ _ _ _ _ refl
