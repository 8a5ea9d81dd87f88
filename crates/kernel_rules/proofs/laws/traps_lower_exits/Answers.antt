use Rattle.std.proofs.Common.{refl}
use Rattle.kernel_rules.proofs.CompletionCodes.{inner_exit, trap_leaves_above}
use Rattle.kernel_rules.proofs.laws.traps_lower_exits.Goals as goal

pub returns-clause-own : goal.returns-clause-own
returns-clause-own c = refl

pub returns-clause-outer : goal.returns-clause-outer
returns-clause-outer c = inner_exit

pub returns-clause-ended : goal.returns-clause-ended
returns-clause-ended c = refl

pub returns-clause-paused : goal.returns-clause-paused
returns-clause-paused c = refl

pub returns-clause-above : goal.returns-clause-above
returns-clause-above c = trap_leaves_above
