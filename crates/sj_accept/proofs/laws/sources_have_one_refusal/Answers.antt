use Rattle.sj_accept.proofs.RefusalLemmas.{one_refusal}
use Rattle.sj_accept.proofs.laws.sources_have_one_refusal.Goals as goal

pub returns : goal.returns
returns c = one_refusal (record { tokens = c.sources_have_one_reading.ensures.tokens; either = c.sources_have_one_reading.ensures.either; fault = c.sources_have_one_reading.ensures.refusal; tree = c.sources_are_one_tree.ensures })
