use Rattle.std.proofs.Common.{refl}
use Rattle.tick_tree.proofs.WayLemmas.{ways-trap}
use Rattle.tick_tree.proofs.measure.outside.Goals as goal

pub returns : goal.returns
returns c = λ w x. ways-trap w c.args.body _ x refl refl
