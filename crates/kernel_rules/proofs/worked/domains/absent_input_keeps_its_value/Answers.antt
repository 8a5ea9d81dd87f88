use Rattle.kernel_rules.proofs.DomainRows.{input_ticks}
use Rattle.kernel_rules.proofs.worked.domains.absent_input_keeps_its_value.Goals as goal

pub returns : goal.returns
returns c = input_ticks
