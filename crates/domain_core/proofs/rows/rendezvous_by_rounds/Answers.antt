use Rattle.domain_core.proofs.lemmas.rounds.FittingRounds.{rendezvous-by_rounds}
use Rattle.domain_core.proofs.rows.rendezvous_by_rounds.Goals as goal

pub returns : goal.returns
returns c = rendezvous-by_rounds
