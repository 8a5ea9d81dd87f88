use Rattle.domain_core.proofs.lemmas.runs.StampBound.{stamp_within_count}
use Rattle.domain_core.proofs.laws.runs.stamps_have_no_gaps.Goals as goal

pub returns : goal.returns
returns c = λ setup r e y f s h. stamp_within_count setup r y f s e h
