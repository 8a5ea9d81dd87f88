use Rattle.kernel_rules.proofs.OneTickLemmas.{one_tick}
use Rattle.kernel_rules.proofs.laws.environment_decides_tick.Goals as goal

pub returns : goal.returns
returns c = one_tick
