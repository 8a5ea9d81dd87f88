use Rattle.surf_graph.proofs.ExpressionWires.{spelled_out_given}
use Rattle.surf_graph.proofs.FurtherWires.{spelled_out_solved}
use Rattle.surf_graph.proofs.spelling.spelled_equations_say_the_same.Goals as goal

pub returns-clause-no_more : goal.returns-clause-no_more
returns-clause-no_more c = spelled_out_given

pub returns-clause-no_less : goal.returns-clause-no_less
returns-clause-no_less c = spelled_out_solved
