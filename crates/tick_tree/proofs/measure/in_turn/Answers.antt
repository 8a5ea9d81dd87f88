use Rattle.std.proofs.Common.{◌∙◌, ap, refl, ◌+◌}
use Rattle.kernel_terms.specs.MayEnd.{starting, resuming, in_turn}
use Rattle.tick_tree.specs.definitions.Weight.{capped}
use Rattle.tick_tree.proofs.PartWalks.{found-Seq}
use Rattle.tick_tree.proofs.measure.in_turn.Goals as goal

pub returns : goal.returns
returns c = λ p q x y.
    found-Seq p q c.args.first c.args.second _ x y
    (c.followed.ensures (starting p) (starting q) x.at_start y.at_start)
    (c.one_of.ensures (in_turn (resuming p) (starting q)) (resuming q) (c.followed-2.ensures (resuming p) (starting q) x.at_later y.at_start) y.at_later)
    refl
    (c.sum.ensures ∙ ap (λ k. capped (c.args.first.starting_weight + k)) c.given-starts.ensures)
    (c.sum-2.ensures ∙ ap (λ k. capped (k + c.args.second.resuming_weight)) (c.sum-later.ensures ∙ ap (λ k. capped (c.args.first.resuming_weight + k)) c.given-restarts.ensures))
