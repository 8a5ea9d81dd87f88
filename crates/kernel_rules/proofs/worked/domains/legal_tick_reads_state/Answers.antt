use Rattle.kernel_rules.proofs.DomainRows.{state_tick, state_row}
use Rattle.kernel_rules.proofs.worked.domains.legal_tick_reads_state.Goals as goal

pub returns-clause-tick : goal.returns-clause-tick
returns-clause-tick c = state_tick

pub returns-clause-alone : goal.returns-clause-alone
returns-clause-alone c = state_row
