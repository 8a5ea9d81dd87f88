use Rattle.sj_accept.proofs.RefusalLemmas.{not_accepted}
use Rattle.sj_accept.proofs.laws.accepted_sources_are_not_refused.Goals as goal

pub returns : goal.returns
returns c = not_accepted (record { tokens = c.sources_have_one_reading.ensures.tokens; either = c.sources_have_one_reading.ensures.either; fault = c.sources_have_one_reading.ensures.refusal; tree = c.sources_are_one_tree.ensures })
