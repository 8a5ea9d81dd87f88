use Rattle.kernel_rules.proofs.RowLemmas.{new_value_begins, new_value_logs}
use Rattle.kernel_rules.proofs.RowRefusals.{new_value_emits, old_value_emits}
use Rattle.kernel_rules.proofs.rows.new_copy_has_first_value.Goals as goal

pub returns-clause-first : goal.returns-clause-first
returns-clause-first c = new_value_begins

pub returns-clause-second : goal.returns-clause-second
returns-clause-second c = new_value_logs

pub returns-clause-new : goal.returns-clause-new
returns-clause-new c = new_value_emits

pub returns-clause-old : goal.returns-clause-old
returns-clause-old c = old_value_emits
