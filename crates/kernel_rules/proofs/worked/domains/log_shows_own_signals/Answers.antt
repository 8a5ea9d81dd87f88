use Rattle.kernel_rules.proofs.DomainRows.{own_ticks, other_tick, other_row}
use Rattle.kernel_rules.proofs.worked.domains.log_shows_own_signals.Goals as goal

pub returns-clause-own : goal.returns-clause-own
returns-clause-own c = own_ticks

pub returns-clause-other : goal.returns-clause-other
returns-clause-other c = other_tick

pub returns-clause-other_alone : goal.returns-clause-other_alone
returns-clause-other_alone c = other_row
