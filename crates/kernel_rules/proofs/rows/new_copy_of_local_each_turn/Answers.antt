use Rattle.kernel_rules.proofs.RowLemmas.{new_copy_begins, new_copy_logs}
use Rattle.kernel_rules.proofs.RowRefusals.{new_copy_emits, old_copy_emits}
use Rattle.kernel_rules.proofs.rows.new_copy_of_local_each_turn.Goals as goal

pub returns-clause-first : goal.returns-clause-first
returns-clause-first c = new_copy_begins

pub returns-clause-second : goal.returns-clause-second
returns-clause-second c = new_copy_logs

pub returns-clause-new : goal.returns-clause-new
returns-clause-new c = new_copy_emits

pub returns-clause-old : goal.returns-clause-old
returns-clause-old c = old_copy_emits
