use Rattle.kernel_rules.proofs.LocalEmissionLemmas.{local_hidden}
use Rattle.kernel_rules.proofs.laws.local_emissions_stay_inside.Goals as goal

pub returns : goal.returns
returns c = local_hidden
