use Rattle.surf_graph.proofs.DomainStarts.{starting_equations, starting_operations}
use Rattle.surf_graph.proofs.domain_laws.starting_domains_tell_ticks.Goals as goal

pub returns-clause-equations : goal.returns-clause-equations
returns-clause-equations c = starting_equations

pub returns-clause-operations : goal.returns-clause-operations
returns-clause-operations c = starting_operations
