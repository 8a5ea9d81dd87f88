use Rattle.std.proofs.Common.{refl}
use Rattle.kernel_rules.proofs.worked.variables.each_form_mentions_what_it_names.Goals as goal

pub returns-clause-variable : goal.returns-clause-variable
returns-clause-variable c = refl

pub returns-clause-signal : goal.returns-clause-signal
returns-clause-signal c = refl

pub returns-clause-channel : goal.returns-clause-channel
returns-clause-channel c = refl

pub returns-clause-no_variable : goal.returns-clause-no_variable
returns-clause-no_variable c = refl

pub returns-clause-no_signal : goal.returns-clause-no_signal
returns-clause-no_signal c = refl

pub returns-clause-no_channel : goal.returns-clause-no_channel
returns-clause-no_channel c = refl

pub returns-clause-no_channel_besides : goal.returns-clause-no_channel_besides
returns-clause-no_channel_besides c = refl

pub returns-clause-no_signal_besides : goal.returns-clause-no_signal_besides
returns-clause-no_signal_besides c = refl

pub returns-clause-around_signal : goal.returns-clause-around_signal
returns-clause-around_signal c = refl

pub returns-clause-around_channel : goal.returns-clause-around_channel
returns-clause-around_channel c = refl

pub returns-clause-around_no_channel : goal.returns-clause-around_no_channel
returns-clause-around_no_channel c = refl
