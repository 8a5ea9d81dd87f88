use Rattle.std.proofs.Common.{◌<◌, length, get_or, None, subst, sym, ap, arith}
use Rattle.std.specs.Prelude.{IfSome}
use Rattle.domain_core.specs.step.JoinLists.{StampsFit}
use Rattle.domain_core.proofs.lemmas.step.AnswerFacts.{offered_stamps}
use Rattle.domain_core.proofs.step.parts.offer_phase.Goals as goal

pub apply-requires-clause-stamps : goal.apply-requires-clause-stamps
apply-requires-clause-stamps g c = λ k less.
    let o = c.offer_all.ensures in
    let v = c.deref-2.ensures.value in
    let within : k < length c.deref.result.now = omega (arith, less, ap length v, o.answers) in
    subst (λ l. IfSome (get_or l k None) StampsFit) (sym v) (offered_stamps (get_or c.args.asks.now k None) (get_or c.offer_all.new.answers.items k None) c.args.stamp _ _ c.requires.stamp (o.offers.passed k within))
