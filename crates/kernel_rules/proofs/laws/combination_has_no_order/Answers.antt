use Rattle.kernel_rules.proofs.CombinationLemmas.{combined_comm, combined_assoc, combined_range}
use Rattle.kernel_rules.proofs.laws.combination_has_no_order.Goals as goal

pub returns-clause-symmetric : goal.returns-clause-symmetric
returns-clause-symmetric c = combined_comm

pub returns-clause-grouping : goal.returns-clause-grouping
returns-clause-grouping c = combined_assoc

pub returns-clause-range : goal.returns-clause-range
returns-clause-range c = combined_range
