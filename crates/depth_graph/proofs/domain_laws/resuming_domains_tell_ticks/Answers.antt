use Rattle.depth_graph.proofs.DomainResumes.{resuming_equations, resuming_operations}
use Rattle.depth_graph.proofs.domain_laws.resuming_domains_tell_ticks.Goals as goal

pub returns-clause-equations : goal.returns-clause-equations
returns-clause-equations c = resuming_equations

pub returns-clause-operations : goal.returns-clause-operations
returns-clause-operations c = resuming_operations
