use Rattle.tick_tree.proofs.RowLemmas.{weak-causal}
use Rattle.tick_tree.proofs.rows.immediate_weak_abort_sees_own_emission.Goals as goal

pub returns : goal.returns
returns c = weak-causal
