use Rattle.std.proofs.Common.{◌∙◌, ap, refl, ◌+◌}
use Rattle.kernel_terms.specs.MayEnd.{starting, resuming}
use Rattle.tick_tree.specs.definitions.Weight.{capped}
use Rattle.tick_tree.proofs.PartWalks.{found-Loop}
use Rattle.tick_tree.proofs.measure.again.Goals as goal

pub returns : goal.returns
returns c = λ p x.
    found-Loop p c.args.body _ c.followed.result x (c.followed.ensures (resuming p) (starting p) x.at_later x.at_start) refl refl refl refl refl refl
    (c.sum.ensures ∙ ap (λ k. capped (c.args.body.resuming_weight + k)) c.given-restarts.ensures)
