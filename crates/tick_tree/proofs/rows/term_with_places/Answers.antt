use Rattle.tick_tree.proofs.TermRows.{beside-started, beside-later, beside-trees}
use Rattle.tick_tree.proofs.rows.term_with_places.Goals as goal

pub returns : goal.returns
returns c = record { starting = beside-started; resuming = beside-later; causal = beside-trees }
