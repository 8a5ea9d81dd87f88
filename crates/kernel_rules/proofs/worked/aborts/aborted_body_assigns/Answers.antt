use Rattle.std.proofs.Common.{refl}
use Rattle.kernel_rules.proofs.SeenTicks.{shows}
use Rattle.kernel_rules.proofs.worked.aborts.aborted_body_assigns.Goals as goal

pub returns-clause-strong : goal.returns-clause-strong
returns-clause-strong c = shows _ _ _ _ _ refl

pub returns-clause-weak : goal.returns-clause-weak
returns-clause-weak c = shows _ _ _ _ _ refl

pub returns-clause-weak_ending : goal.returns-clause-weak_ending
returns-clause-weak_ending c = shows _ _ _ _ _ refl
