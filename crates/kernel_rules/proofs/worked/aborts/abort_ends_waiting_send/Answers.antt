use Rattle.std.proofs.Common.{refl}
use Rattle.kernel_rules.proofs.SeenTicks.{shows}
use Rattle.kernel_rules.proofs.worked.aborts.abort_ends_waiting_send.Goals as goal

pub returns-clause-strong : goal.returns-clause-strong
returns-clause-strong c = shows _ _ _ _ _ refl

pub returns-clause-weak : goal.returns-clause-weak
returns-clause-weak c = shows _ _ _ _ _ refl

pub returns-clause-waits : goal.returns-clause-waits
returns-clause-waits c = shows _ _ _ _ _ refl

pub returns-clause-strong_sent : goal.returns-clause-strong_sent
returns-clause-strong_sent c = shows _ _ _ _ _ refl

pub returns-clause-weak_sent : goal.returns-clause-weak_sent
returns-clause-weak_sent c = shows _ _ _ _ _ refl

pub returns-clause-sent : goal.returns-clause-sent
returns-clause-sent c = shows _ _ _ _ _ refl
