use Rattle.tick_tree.proofs.RowLemmas.{causes_itself-cycle}
use Rattle.tick_tree.proofs.rows.self_causing_signal.Goals as goal

pub returns : goal.returns
returns c = causes_itself-cycle
