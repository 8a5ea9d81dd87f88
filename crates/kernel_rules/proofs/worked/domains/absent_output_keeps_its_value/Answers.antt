use Rattle.kernel_rules.proofs.DomainRows.{absent_ticks}
use Rattle.kernel_rules.proofs.DomainRows.{alternate_ticks}
use Rattle.kernel_rules.proofs.worked.domains.absent_output_keeps_its_value.Goals as goal

pub returns-clause-first : goal.returns-clause-first
returns-clause-first c = absent_ticks

pub returns-clause-last : goal.returns-clause-last
returns-clause-last c = alternate_ticks
