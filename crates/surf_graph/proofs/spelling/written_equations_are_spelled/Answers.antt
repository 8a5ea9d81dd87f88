use Rattle.surf_graph.proofs.SpelledAmong.{added_spelled}
use Rattle.surf_graph.proofs.spelling.written_equations_are_spelled.Goals as goal

pub returns : goal.returns
returns c old new n e es w s = added_spelled es old.equations.items new.equations.items n e w.equations s
