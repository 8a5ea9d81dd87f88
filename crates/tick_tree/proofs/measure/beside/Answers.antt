use Rattle.std.proofs.Common.{refl}
use Rattle.tick_tree.proofs.PartWalks.{found-Par}
use Rattle.tick_tree.proofs.measure.beside.Goals as goal

pub returns : goal.returns
returns c = λ p q x y. found-Par p q c.args.left c.args.right _ x y refl refl refl c.sum.ensures c.sum-2.ensures
