use Rattle.std.proofs.Common.{◌∙◌, ap, refl, ◌+◌}
use Rattle.kernel_terms.specs.MayEnd.{starting, resuming}
use Rattle.tick_tree.specs.definitions.Weight.{capped}
use Rattle.tick_tree.proofs.PartWalks.{found-If, found-Present}
use Rattle.tick_tree.proofs.measure.either.Goals as goal

pub returns-clause-by_condition : goal.returns-clause-by_condition
returns-clause-by_condition c = λ e p q is x y.
    found-If e p q c.args.yes c.args.other _ c.args.nodes is x y
    (record {
      starts = c.one_of.ensures (starting p) (starting q) x.at_start y.at_start;
      goes = c.one_of-2.ensures (resuming p) (resuming q) x.at_later y.at_later;
      any = refl;
      first = c.sum-2.ensures ∙ ap (λ k. capped (k + c.sum-branches.result)) c.sum.ensures ∙ ap (λ k. capped (capped (1 + c.args.nodes) + k)) c.sum-branches.ensures;
      later = c.sum-3.ensures;
    })

pub returns-clause-by_test : goal.returns-clause-by_test
returns-clause-by_test c = λ t p q is x y.
    found-Present t p q c.args.yes c.args.other _ c.args.nodes is x y
    (record {
      starts = c.one_of.ensures (starting p) (starting q) x.at_start y.at_start;
      goes = c.one_of-2.ensures (resuming p) (resuming q) x.at_later y.at_later;
      any = refl;
      first = c.sum-2.ensures ∙ ap (λ k. capped (k + c.sum-branches.result)) c.sum.ensures ∙ ap (λ k. capped (capped (1 + c.args.nodes) + k)) c.sum-branches.ensures;
      later = c.sum-3.ensures;
    })
