use Rattle.std.proofs.Common.{refl, ap}
use Rattle.std.specs.Int.RustNames.{bit_or}
use Rattle.tick_tree.proofs.WayLemmas.{ways-in_turn}
use Rattle.tick_tree.proofs.measure.followed.Goals as goal

pub returns : goal.returns
returns c = λ v w x y. ways-in_turn v w c.args.first c.args.second _ x y refl (ap (λ k. bit_or c.args.first.traps k) c.given.ensures)
