use Rattle.domain_core.proofs.lemmas.runs.StampRuleLemmas.{first_stamp}
use Rattle.domain_core.proofs.laws.runs.first_ticks_have_stamp_one.Goals as goal

pub returns : goal.returns
returns c = λ setup r d s h. first_stamp setup r s d h
