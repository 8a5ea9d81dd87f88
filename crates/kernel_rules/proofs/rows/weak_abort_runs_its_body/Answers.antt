use Rattle.kernel_rules.proofs.OneLogRows.{weak_abort_alone, endless_abort_alone}
use Rattle.kernel_rules.proofs.rows.weak_abort_runs_its_body.Goals as goal

pub returns-clause-ending : goal.returns-clause-ending
returns-clause-ending c = weak_abort_alone

pub returns-clause-pausing : goal.returns-clause-pausing
returns-clause-pausing c = endless_abort_alone
