use Rattle.kernel_rules.proofs.DomainRows.{contradicted}
use Rattle.kernel_rules.proofs.DomainRows.{loud_tick}
use Rattle.kernel_rules.proofs.DomainRows.{silent_tick}
use Rattle.kernel_rules.proofs.worked.domains.coherence_decides.Goals as goal

pub returns-clause-absent : goal.returns-clause-absent
returns-clause-absent c = silent_tick

pub returns-clause-present : goal.returns-clause-present
returns-clause-present c = loud_tick

pub returns-clause-none : goal.returns-clause-none
returns-clause-none c = contradicted
