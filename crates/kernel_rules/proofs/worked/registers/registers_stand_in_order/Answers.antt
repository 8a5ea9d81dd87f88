use Rattle.std.proofs.Common.{refl}
use Rattle.kernel_rules.proofs.worked.registers.registers_stand_in_order.Goals as goal

pub returns-clause-small : goal.returns-clause-small
returns-clause-small c = refl

pub returns-clause-other : goal.returns-clause-other
returns-clause-other c = refl

pub returns-clause-pure : goal.returns-clause-pure
returns-clause-pure c = refl
