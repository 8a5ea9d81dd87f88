use Rattle.kernel_rules.proofs.OneLogRows.{strong_begins_alone, strong_abort_only}
use Rattle.kernel_rules.proofs.RowRefusals.{no_last_words, strong_abort_alone}
use Rattle.kernel_rules.proofs.rows.strong_abort_stops_its_body.Goals as goal

pub returns-clause-begins : goal.returns-clause-begins
returns-clause-begins c = strong_begins_alone

pub returns-clause-logs : goal.returns-clause-logs
returns-clause-logs c = strong_abort_only

pub returns-clause-silent : goal.returns-clause-silent
returns-clause-silent c = no_last_words

pub returns-clause-alone : goal.returns-clause-alone
returns-clause-alone c = strong_abort_alone
