use Rattle.sj_accept.proofs.SourceLemmas.{tree_whole}
use Rattle.sj_accept.proofs.laws.trees_are_whole.Goals as goal

pub returns : goal.returns
returns c = tree_whole c.name_tokens_are_names.ensures
