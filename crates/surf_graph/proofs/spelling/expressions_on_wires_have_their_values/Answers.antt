use Rattle.surf_graph.proofs.ExpressionWires.{value_given, test_given}
use Rattle.surf_graph.proofs.spelling.expressions_on_wires_have_their_values.Goals as goal

pub returns-clause-value : goal.returns-clause-value
returns-clause-value c = value_given

pub returns-clause-test : goal.returns-clause-test
returns-clause-test c = test_given
