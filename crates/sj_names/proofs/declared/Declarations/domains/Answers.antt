use Rattle.std.proofs.Common.{arith}
use Rattle.sj_names.specs.DeclaredNames.{declared_in}
use Rattle.sj_names.proofs.DeclaredLemmas.{domains_next}
use Rattle.sj_names.proofs.declared.Declarations.domains.Goals as goal

pub loop-i-preserved : goal.loop-i-preserved
loop-i-preserved c =
    domains_next c.args.domains.now c.loop-i.i c.in_ok-domain.domain c.index-domains-i.result _ (declared_in c.loop-i.self) (declared_in c.block.new.self) (let t = c.loop-i-test.true in omega arith) c.index-domains-i.is c.in_ok-domain.ensures.value c.loop-i.invariant
    c.in_ok-block.ensures
