use Rattle.tick_tree.proofs.RowLemmas.{see_each_other-cycle}
use Rattle.tick_tree.proofs.rows.branches_that_see_each_other.Goals as goal

pub returns : goal.returns
returns c = see_each_other-cycle
