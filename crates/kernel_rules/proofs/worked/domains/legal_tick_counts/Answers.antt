use Rattle.kernel_rules.proofs.DomainRows.{counts, keeps_values}
use Rattle.kernel_rules.proofs.DomainRows.{keeps_last}
use Rattle.kernel_rules.proofs.worked.domains.legal_tick_counts.Goals as goal

pub returns-clause-ticks : goal.returns-clause-ticks
returns-clause-ticks c = counts

pub returns-clause-last : goal.returns-clause-last
returns-clause-last c = keeps_last

pub returns-clause-values : goal.returns-clause-values
returns-clause-values c = keeps_values
