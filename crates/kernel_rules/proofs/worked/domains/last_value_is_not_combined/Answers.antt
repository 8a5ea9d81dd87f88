use Rattle.kernel_rules.proofs.DomainRows.{again_ticks}
use Rattle.kernel_rules.proofs.worked.domains.last_value_is_not_combined.Goals as goal

pub returns : goal.returns
returns c = again_ticks
