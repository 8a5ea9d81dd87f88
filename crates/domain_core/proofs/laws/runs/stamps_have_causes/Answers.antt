use Rattle.domain_core.proofs.lemmas.runs.StampBound.{has_cause}
use Rattle.domain_core.proofs.laws.runs.stamps_have_causes.Goals as goal

pub returns : goal.returns
returns c = λ setup r e y f s h. has_cause setup r y f s e h
