use Rattle.std.proofs.Common.{◌∙◌, ap, ◌+◌, cond, refl}
use Rattle.tick_tree.specs.definitions.Weight.{capped}
use Rattle.tick_tree.proofs.PartWalks.{found-Abort}
use Rattle.tick_tree.proofs.measure.aborted.Goals as goal

pub returns : goal.returns
returns c = λ weak t p is x.
    found-Abort weak c.args.immediate t p c.args.body _ c.args.nodes is x refl refl refl
    (c.sum-2.ensures ∙ ap (λ k. capped (k + c.args.body.starting_weight)) (c.given-test.ensures ∙ ap (λ k. cond c.args.immediate k 0) c.sum.ensures))
    (c.tested.ensures.strong_or_weak weak c.args.immediate t p is x)
