use Rattle.std.proofs.Common.{ℕ, [], ◌∷◌, get_or, refl}
use Rattle.tick_tree.specs.definitions.Shapes.{starting_shape, resuming_shape}
use Rattle.tick_tree.specs.definitions.Trees.{tree_of, tree_of_some}
use Rattle.tick_tree.specs.Rows.{reads_before_emission, reads_or_emits}
use Rattle.tick_tree.proofs.LeafRanks.{rising_ranks, rising_ranks_if}
use Rattle.tick_tree.proofs.rows.alternatives_have_no_order.Goals as goal

-- the first pause, the assignment and the second pause behind it; the second pause and the emission behind it
abbrev sequence_ranks : ℕ → ℕ
sequence_ranks l = get_or (0 ∷ 2 ∷ 3 ∷ 0 ∷ 1 ∷ []) l 0

-- the condition, the assignment, the emission, and the pause
abbrev choice_ranks : ℕ → ℕ
choice_ranks l = get_or (0 ∷ 2 ∷ 1 ∷ 3 ∷ []) l 0

pub returns : goal.returns
returns c = record {
  sequence = λ at. rising_ranks_if sequence_ranks 1 (tree_of_some 1 (resuming_shape at 0 reads_before_emission)) refl;
  choice = λ at. rising_ranks choice_ranks 1 (tree_of 1 (starting_shape at 0 reads_or_emits)) refl;
}
