use Rattle.domain_core.proofs.lemmas.runs.StampBound.{stamps_within}
use Rattle.domain_core.proofs.laws.runs.stamps_are_places.Goals as goal

pub returns : goal.returns
returns c = λ setup r order y f s k. stamps_within setup r y f s order k
