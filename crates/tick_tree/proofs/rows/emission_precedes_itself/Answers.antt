use Rattle.std.proofs.Common.{refl, inr}
use Rattle.tick_tree.specs.definitions.Shapes.{starting_shape}
use Rattle.tick_tree.specs.definitions.Trees.{tree_of}
use Rattle.tick_tree.specs.Rows.{emits_value_of}
use Rattle.tick_tree.proofs.LeafRanks.{rising_ranks}
use Rattle.tick_tree.proofs.rows.emission_precedes_itself.Goals as goal

pub returns : goal.returns
returns c = record {
  own = λ at h. h 0 (0, (0, inr (0, (refl, refl), (refl, refl)), refl));
  another = λ at. rising_ranks (λ l. l) 2 (tree_of 2 (starting_shape at 0 (emits_value_of 1))) refl;
}
