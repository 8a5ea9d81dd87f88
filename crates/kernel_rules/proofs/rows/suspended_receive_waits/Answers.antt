use Rattle.kernel_rules.proofs.RowLemmas.{receive_begins, receive_waits, receive_held, receive_ends}
use Rattle.kernel_rules.proofs.rows.suspended_receive_waits.Goals as goal

pub returns-clause-begins : goal.returns-clause-begins
returns-clause-begins c = receive_begins

pub returns-clause-waits : goal.returns-clause-waits
returns-clause-waits c = receive_waits

pub returns-clause-held : goal.returns-clause-held
returns-clause-held c = receive_held

pub returns-clause-ends : goal.returns-clause-ends
returns-clause-ends c = receive_ends
