use Rattle.surf_graph.proofs.KindedDomains.{starting_domain_kinded}
use Rattle.surf_graph.proofs.KindedDomainOperations.{starting_domain_operations}
use Rattle.surf_graph.proofs.kind_laws.starting_domains_are_well_kinded.Goals as goal

pub returns-clause-equations : goal.returns-clause-equations
returns-clause-equations c = starting_domain_kinded

pub returns-clause-operations : goal.returns-clause-operations
returns-clause-operations c = starting_domain_operations
