use Rattle.std.proofs.Common.{arith, rules}
use Rattle.domain_core.proofs.lemmas.step.EndCallLemmas.{offers_more}
use Rattle.domain_core.proofs.step.ends_calls.offer_all.Goals as goal

pub loop-at-preserved : goal.loop-at-preserved
loop-at-preserved g c =
    let i = c.loop-at.invariant in
    let e = c.offer_one.ensures in
    let within = c.loop-at-test.true in
    record {
      offers =
          offers_more g.E.Ends.moved g.E.Ends.count g.E.Ends.end_at c.args.list.now c.args.asks.now c.args.stamp c.loop-at.answers.items c.loop-at.at c.offer_one.result c.args.ends.now c.loop-at.ends c.offer_one.new.ends
          (omega (arith, i.answers, within)) (omega (arith, c.requires.count, within)) (c.requires.can c.loop-at.at within).side i.offers e.through e.count e.others e.offered;
      answers = search rules;
    }
