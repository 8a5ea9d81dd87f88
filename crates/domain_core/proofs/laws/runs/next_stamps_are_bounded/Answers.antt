use Rattle.domain_core.proofs.lemmas.runs.StampBound.{next_stamp_within}
use Rattle.domain_core.proofs.laws.runs.next_stamps_are_bounded.Goals as goal

pub returns : goal.returns
returns c = λ setup r d stamp y f s h. next_stamp_within setup r y f s d stamp h
