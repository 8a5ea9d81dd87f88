use Rattle.std.proofs.Common.{refl}
use Rattle.tick_tree.proofs.WayLemmas.{ways-either}
use Rattle.tick_tree.proofs.measure.one_of.Goals as goal

pub returns : goal.returns
returns c = λ v w x y. ways-either v w c.args.left c.args.right _ x y refl refl
