use Rattle.std.proofs.Common.{refl}
use Rattle.kernel_rules.proofs.SeenTicks.{shows}
use Rattle.kernel_rules.proofs.worked.aborts.new_start_is_not_armed.Goals as goal

pub returns-clause-suspend_later : goal.returns-clause-suspend_later
returns-clause-suspend_later c = shows _ _ _ _ _ refl

pub returns-clause-suspend_again : goal.returns-clause-suspend_again
returns-clause-suspend_again c = shows _ _ _ _ _ refl

pub returns-clause-strong_later : goal.returns-clause-strong_later
returns-clause-strong_later c = shows _ _ _ _ _ refl

pub returns-clause-strong_again : goal.returns-clause-strong_again
returns-clause-strong_again c = shows _ _ _ _ _ refl

pub returns-clause-weak_later : goal.returns-clause-weak_later
returns-clause-weak_later c = shows _ _ _ _ _ refl

pub returns-clause-weak_again : goal.returns-clause-weak_again
returns-clause-weak_again c = shows _ _ _ _ _ refl
