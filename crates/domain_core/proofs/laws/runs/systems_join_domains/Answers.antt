use Rattle.domain_core.proofs.lemmas.runs.WellFormedSystems.{system_joins}
use Rattle.kernel_terms.proofs.SystemLimits.{few_domains}
use Rattle.domain_core.proofs.laws.runs.systems_join_domains.Goals as goal

pub returns : goal.returns
returns c = record { joined = system_joins; few = few_domains }
