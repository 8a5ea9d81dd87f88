use Rattle.std.proofs.Common.{refl}
use Rattle.kernel_rules.proofs.SeenTicks.{only_tick}
use Rattle.kernel_rules.proofs.SeenTicks.{shows}
use Rattle.kernel_rules.proofs.worked.ends.completed_ends_go_on.Goals as goal

pub returns-clause-sent : goal.returns-clause-sent
returns-clause-sent c = λ tables last n env x. only_tick tables last _ env x refl refl

pub returns-clause-received : goal.returns-clause-received
returns-clause-received c = λ tables last n env x. only_tick tables last _ env x refl refl

pub returns-clause-after_sent : goal.returns-clause-after_sent
returns-clause-after_sent c = shows _ _ _ _ _ refl

pub returns-clause-after_received : goal.returns-clause-after_received
returns-clause-after_received c = shows _ _ _ _ _ refl

pub returns-clause-after_waiting : goal.returns-clause-after_waiting
returns-clause-after_waiting c = shows _ _ _ _ _ refl
