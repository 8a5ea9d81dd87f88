use Rattle.domain_core.proofs.lemmas.runs.WellFormedSystems.{system_is_fresh}
use Rattle.domain_core.proofs.laws.runs.systems_are_fresh.Goals as goal

pub returns : goal.returns
returns c = system_is_fresh
