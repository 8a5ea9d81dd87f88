use Rattle.tick_tree.proofs.TreeWeights.{some-resuming}
use Rattle.tick_tree.proofs.laws.resuming_trees_where_something_resumes.Goals as goal

pub returns : goal.returns
returns c = some-resuming
