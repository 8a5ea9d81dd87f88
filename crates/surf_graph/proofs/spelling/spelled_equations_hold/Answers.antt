use Rattle.surf_graph.proofs.SpelledAmong.{spelled_hold}
use Rattle.surf_graph.proofs.spelling.spelled_equations_hold.Goals as goal

pub returns : goal.returns
returns c = spelled_hold
