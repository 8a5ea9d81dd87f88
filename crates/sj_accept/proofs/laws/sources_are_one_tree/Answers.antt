use Rattle.sj_accept.proofs.SourceLemmas.{parsed_once}
use Rattle.sj_accept.proofs.laws.sources_are_one_tree.Goals as goal

pub returns : goal.returns
returns c = parsed_once c.sources_have_one_reading.ensures.tokens c.sentences_have_one_tree.ensures.programs
