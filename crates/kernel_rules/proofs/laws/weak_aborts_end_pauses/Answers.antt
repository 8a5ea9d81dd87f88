use Rattle.std.proofs.Common.{refl}
use Rattle.kernel_rules.proofs.CompletionCodes.{weak_abort_leaves}
use Rattle.kernel_rules.proofs.laws.weak_aborts_end_pauses.Goals as goal

pub returns-clause-paused : goal.returns-clause-paused
returns-clause-paused c = refl

pub returns-clause-other : goal.returns-clause-other
returns-clause-other c = weak_abort_leaves
