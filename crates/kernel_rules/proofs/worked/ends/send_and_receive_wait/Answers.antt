use Rattle.std.proofs.Common.{refl}
use Rattle.kernel_rules.proofs.SeenTicks.{only_tick}
use Rattle.kernel_rules.proofs.worked.ends.send_and_receive_wait.Goals as goal

pub returns-clause-receives : goal.returns-clause-receives
returns-clause-receives c = λ tables last n env x. only_tick tables last _ env x refl refl

pub returns-clause-receive : goal.returns-clause-receive
returns-clause-receive c = λ tables last n env x. only_tick tables last _ env x refl refl

pub returns-clause-send : goal.returns-clause-send
returns-clause-send c = λ tables last n v env x. only_tick tables last _ env x refl refl
