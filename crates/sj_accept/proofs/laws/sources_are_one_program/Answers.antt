use Rattle.sj_accept.proofs.SourceLemmas.{program_once}
use Rattle.sj_accept.proofs.laws.sources_are_one_program.Goals as goal

pub returns : goal.returns
returns c = program_once c.sources_are_one_tree.ensures
