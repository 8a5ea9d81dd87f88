use Rattle.std.proofs.Common.{refl}
use Rattle.kernel_rules.proofs.worked.registers.valued_input_has_register.Goals as goal

pub returns-clause-kinds : goal.returns-clause-kinds
returns-clause-kinds c = refl

pub returns-clause-local : goal.returns-clause-local
returns-clause-local c = refl

pub returns-clause-input : goal.returns-clause-input
returns-clause-input c = refl

pub returns-clause-pure : goal.returns-clause-pure
returns-clause-pure c = refl

pub returns-clause-output : goal.returns-clause-output
returns-clause-output c = refl

pub returns-clause-of_another : goal.returns-clause-of_another
returns-clause-of_another c = refl
