use Rattle.std.proofs.Common.{refl}
use Rattle.kernel_rules.proofs.SeenTicks.{shows}
use Rattle.kernel_rules.proofs.worked.codes.trap_ends_at_its_exit.Goals as goal

pub returns-clause-ended : goal.returns-clause-ended
returns-clause-ended c = shows _ _ _ _ _ refl

pub returns-clause-exited : goal.returns-clause-exited
returns-clause-exited c = shows _ _ _ _ _ refl

pub returns-clause-paused : goal.returns-clause-paused
returns-clause-paused c = shows _ _ _ _ _ refl

pub returns-clause-later : goal.returns-clause-later
returns-clause-later c = shows _ _ _ _ _ refl
