use Rattle.domain_core.proofs.lemmas.rounds.InterleavedRounds.{interleaving_fits}
use Rattle.domain_core.proofs.laws.rounds.interleavings_fit.Goals as goal

pub returns : goal.returns
returns c = interleaving_fits
