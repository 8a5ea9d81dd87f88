use Rattle.surf_graph.proofs.SpelledAmong.{none_spelled, one_more_spelled, both_spelled, spelled_out_spelled}
use Rattle.surf_graph.proofs.spelling.equations_are_spelled_one_by_one.Goals as goal

pub returns-clause-none : goal.returns-clause-none
returns-clause-none c = none_spelled

pub returns-clause-one_more : goal.returns-clause-one_more
returns-clause-one_more c = one_more_spelled

pub returns-clause-both : goal.returns-clause-both
returns-clause-both c = both_spelled

pub returns-clause-spelled_out : goal.returns-clause-spelled_out
returns-clause-spelled_out c = spelled_out_spelled
