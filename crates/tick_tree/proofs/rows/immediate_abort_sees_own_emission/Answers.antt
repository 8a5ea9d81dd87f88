use Rattle.tick_tree.proofs.RowLemmas.{sees_own_emission-cycle}
use Rattle.tick_tree.proofs.rows.immediate_abort_sees_own_emission.Goals as goal

pub returns : goal.returns
returns c = sees_own_emission-cycle
