use Rattle.tick_tree.proofs.LeafNumbers.{numbers-tree_of}
use Rattle.tick_tree.proofs.laws.leaves_are_numbered_from_the_left.Goals as goal

pub returns : goal.returns
returns c = numbers-tree_of
