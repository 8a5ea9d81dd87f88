use Rattle.domain_core.proofs.lemmas.rounds.RoundsGrow.{rounds_begin, rounds_more, rounds_close}
use Rattle.domain_core.proofs.laws.rounds.rounds_grow.Goals as goal

pub returns : goal.returns
returns c = record { begun = rounds_begin; grown = rounds_more; closed = rounds_close }
