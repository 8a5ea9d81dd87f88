use Rattle.kernel_rules.proofs.DomainRows.{answer_ticks}
use Rattle.kernel_rules.proofs.worked.domains.output_is_present_where_emitted.Goals as goal

pub returns : goal.returns
returns c = answer_ticks
