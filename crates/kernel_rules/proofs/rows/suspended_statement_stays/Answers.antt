use Rattle.kernel_rules.proofs.RowRefusals.{suspended_alone}
use Rattle.kernel_rules.proofs.rows.suspended_statement_stays.Goals as goal

pub returns : goal.returns
returns c = suspended_alone
