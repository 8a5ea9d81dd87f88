use Rattle.std.proofs.Common.{refl}
use Rattle.kernel_rules.proofs.worked.registers.registers_hold_values.Goals as goal

pub returns-clause-x : goal.returns-clause-x
returns-clause-x c = refl

pub returns-clause-other_variable : goal.returns-clause-other_variable
returns-clause-other_variable c = refl

pub returns-clause-b : goal.returns-clause-b
returns-clause-b c = refl

pub returns-clause-pure : goal.returns-clause-pure
returns-clause-pure c = refl

pub returns-clause-int : goal.returns-clause-int
returns-clause-int c = refl

pub returns-clause-other_signal : goal.returns-clause-other_signal
returns-clause-other_signal c = refl

pub returns-clause-byte : goal.returns-clause-byte
returns-clause-byte c = refl

pub returns-clause-local : goal.returns-clause-local
returns-clause-local c = refl

pub returns-clause-sent : goal.returns-clause-sent
returns-clause-sent c = refl

pub returns-clause-received : goal.returns-clause-received
returns-clause-received c = refl

pub returns-clause-of_another : goal.returns-clause-of_another
returns-clause-of_another c = refl

pub returns-clause-of_another_signal : goal.returns-clause-of_another_signal
returns-clause-of_another_signal c = refl

pub returns-clause-of_another_channel : goal.returns-clause-of_another_channel
returns-clause-of_another_channel c = refl
