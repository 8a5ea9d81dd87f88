use Rattle.std.proofs.Common.{arith, subst}
use Rattle.sj_names.specs.FirstDomains.{UsesAll}
use Rattle.sj_names.proofs.UseLemmas.{first_next}
use Rattle.sj_names.proofs.uses.FirstUses.of.Goals as goal

pub loop-i-preserved : goal.loop-i-preserved
loop-i-preserved c =
    first_next c.args.way c.loop-i.first c.add_all.new.self c.args.domains.now c.loop-i.i c.index-domains-i.result (let t = c.loop-i-test.true in omega arith) c.index-domains-i.is c.loop-i.invariant
    (subst (λ l. UsesAll c.loop-i.first c.add_all.new.self c.args.way l c.loop-i.i) c.deref.ensures.value c.in_ok-add_all.ensures)
