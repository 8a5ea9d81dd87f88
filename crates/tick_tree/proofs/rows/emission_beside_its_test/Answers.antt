use Rattle.tick_tree.proofs.RowLemmas.{beside-causal}
use Rattle.tick_tree.proofs.rows.emission_beside_its_test.Goals as goal

pub returns : goal.returns
returns c = beside-causal
