use Rattle.kernel_rules.proofs.ResidualNames.{residual_writes, residual_mentions_variable, residual_mentions_signal, residual_mentions_channel}
use Rattle.kernel_rules.proofs.laws.residuals_mention_no_more.Goals as goal

pub returns-clause-writes : goal.returns-clause-writes
returns-clause-writes c = residual_writes

pub returns-clause-variables : goal.returns-clause-variables
returns-clause-variables c = residual_mentions_variable

pub returns-clause-signals : goal.returns-clause-signals
returns-clause-signals c = residual_mentions_signal

pub returns-clause-channels : goal.returns-clause-channels
returns-clause-channels c = residual_mentions_channel
