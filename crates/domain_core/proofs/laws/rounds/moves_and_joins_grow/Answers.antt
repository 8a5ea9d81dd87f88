use Rattle.domain_core.proofs.lemmas.rounds.MovesGrow.{moves_grown, joins_grown, moves_closed, joins_closed}
use Rattle.domain_core.proofs.laws.rounds.moves_and_joins_grow.Goals as goal

pub returns : goal.returns
returns c = record { moves_grown = moves_grown; joins_grown = joins_grown; moves_closed = moves_closed; joins_closed = joins_closed }
