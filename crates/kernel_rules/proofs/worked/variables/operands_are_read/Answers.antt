use Rattle.std.proofs.Common.{refl}
use Rattle.kernel_rules.proofs.worked.variables.operands_are_read.Goals as goal

pub returns-clause-variable : goal.returns-clause-variable
returns-clause-variable c = refl

pub returns-clause-signal : goal.returns-clause-signal
returns-clause-signal c = refl

pub returns-clause-channel : goal.returns-clause-channel
returns-clause-channel c = refl

pub returns-clause-no_variable : goal.returns-clause-no_variable
returns-clause-no_variable c = refl

pub returns-clause-no_signal : goal.returns-clause-no_signal
returns-clause-no_signal c = refl

pub returns-clause-no_channel : goal.returns-clause-no_channel
returns-clause-no_channel c = refl

pub returns-clause-other_variable : goal.returns-clause-other_variable
returns-clause-other_variable c = refl

pub returns-clause-other_signal : goal.returns-clause-other_signal
returns-clause-other_signal c = refl

pub returns-clause-other_channel : goal.returns-clause-other_channel
returns-clause-other_channel c = refl

pub returns-clause-tests : goal.returns-clause-tests
returns-clause-tests c = refl

pub returns-clause-other_tests : goal.returns-clause-other_tests
returns-clause-other_tests c = refl
