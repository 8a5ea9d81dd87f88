use Rattle.domain_core.proofs.lemmas.rounds.ClosedInterleavings.{interleavings_close}
use Rattle.domain_core.proofs.laws.rounds.interleavings_close.Goals as goal

pub returns : goal.returns
returns c = interleavings_close
