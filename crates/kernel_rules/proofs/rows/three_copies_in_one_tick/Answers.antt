use Rattle.kernel_rules.proofs.OneLogRows.{copies_begin_alone, copies_abort_alone, copies_alone}
use Rattle.kernel_rules.proofs.rows.three_copies_in_one_tick.Goals as goal

pub returns-clause-first : goal.returns-clause-first
returns-clause-first c = copies_begin_alone

pub returns-clause-second : goal.returns-clause-second
returns-clause-second c = copies_abort_alone

pub returns-clause-third : goal.returns-clause-third
returns-clause-third c = copies_alone
