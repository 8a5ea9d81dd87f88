use Rattle.depth_graph.proofs.KindedResumingDomains.{resuming_domain_kinded, resuming_domain_operations}
use Rattle.depth_graph.proofs.kind_laws.resuming_domains_are_well_kinded.Goals as goal

pub returns-clause-equations : goal.returns-clause-equations
returns-clause-equations c = resuming_domain_kinded

pub returns-clause-operations : goal.returns-clause-operations
returns-clause-operations c = resuming_domain_operations
