use Rattle.kernel_rules.proofs.DomainRows.{ended_stays}
use Rattle.kernel_rules.proofs.DomainRows.{exit_refused}
use Rattle.kernel_rules.proofs.worked.domains.some_domains_make_no_tick.Goals as goal

pub returns-clause-ended : goal.returns-clause-ended
returns-clause-ended c = ended_stays

pub returns-clause-exits : goal.returns-clause-exits
returns-clause-exits c = exit_refused
