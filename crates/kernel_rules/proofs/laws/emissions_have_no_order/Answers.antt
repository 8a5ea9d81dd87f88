use Rattle.kernel_rules.proofs.EmissionLemmas.{folded_range, folded_swapped}
use Rattle.kernel_rules.proofs.laws.emissions_have_no_order.Goals as goal

pub returns-clause-range : goal.returns-clause-range
returns-clause-range c = folded_range

pub returns-clause-swapped : goal.returns-clause-swapped
returns-clause-swapped c = folded_swapped
