use Rattle.std.proofs.Common.{refl}
use Rattle.sj_names.proofs.rows.small_limits.Goals as goal

pub returns-clause-owners : goal.returns-clause-owners
returns-clause-owners c = refl

pub returns-clause-others : goal.returns-clause-others
returns-clause-others c = refl

pub returns-clause-signals : goal.returns-clause-signals
returns-clause-signals c = refl

pub returns-clause-local_signal : goal.returns-clause-local_signal
returns-clause-local_signal c = refl

pub returns-clause-interface_first : goal.returns-clause-interface_first
returns-clause-interface_first c = refl

pub returns-clause-variables : goal.returns-clause-variables
returns-clause-variables c = refl

pub returns-clause-variable : goal.returns-clause-variable
returns-clause-variable c = refl

pub returns-clause-channels : goal.returns-clause-channels
returns-clause-channels c = refl

pub returns-clause-channel : goal.returns-clause-channel
returns-clause-channel c = refl

pub returns-clause-ends_before_limit : goal.returns-clause-ends_before_limit
returns-clause-ends_before_limit c = refl
