use Rattle.std.proofs.Common.{◌∙◌, ap, ◌+◌, cond}
use Rattle.tick_tree.specs.definitions.Weight.{capped}
use Rattle.tick_tree.proofs.PartWalks.{tested-Abort, tested-Suspend}
use Rattle.tick_tree.proofs.measure.tested.Goals as goal

pub returns-clause-strong_or_weak : goal.returns-clause-strong_or_weak
returns-clause-strong_or_weak c = λ weak armed t p is x.
    tested-Abort weak armed t p c.args.body c.args.nodes _ is x
    (c.sum-2.ensures ∙ ap (λ k. capped (k + c.args.body.resuming_weight)) (c.given.ensures ∙ ap (λ k. cond c.args.body.resumes k 0) c.sum.ensures))

pub returns-clause-suspension : goal.returns-clause-suspension
returns-clause-suspension c = λ armed t p is x.
    tested-Suspend armed t p c.args.body c.args.nodes _ is x
    (c.sum-2.ensures ∙ ap (λ k. capped (k + c.args.body.resuming_weight)) (c.given.ensures ∙ ap (λ k. cond c.args.body.resumes k 0) c.sum.ensures))
