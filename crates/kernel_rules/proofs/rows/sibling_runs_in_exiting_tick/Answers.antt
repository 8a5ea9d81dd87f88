use Rattle.kernel_rules.proofs.OneLogRows.{sibling_alone}
use Rattle.kernel_rules.proofs.rows.sibling_runs_in_exiting_tick.Goals as goal

pub returns : goal.returns
returns c = sibling_alone
