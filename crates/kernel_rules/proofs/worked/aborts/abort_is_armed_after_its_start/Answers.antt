use Rattle.std.proofs.Common.{refl}
use Rattle.kernel_rules.proofs.SeenTicks.{shows}
use Rattle.kernel_rules.proofs.worked.aborts.abort_is_armed_after_its_start.Goals as goal

pub returns-clause-strong : goal.returns-clause-strong
returns-clause-strong c = shows _ _ _ _ _ refl

pub returns-clause-strong_later : goal.returns-clause-strong_later
returns-clause-strong_later c = shows _ _ _ _ _ refl

pub returns-clause-weak : goal.returns-clause-weak
returns-clause-weak c = shows _ _ _ _ _ refl

pub returns-clause-weak_later : goal.returns-clause-weak_later
returns-clause-weak_later c = shows _ _ _ _ _ refl
