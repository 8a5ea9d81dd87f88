use Rattle.std.proofs.Common.{◌∙◌, sym, ap, arith}
use Rattle.std.specs.List.{flat_map}
use Rattle.sj_names.specs.definitions.Failures.{least_of, own_failures}
use Rattle.sj_names.proofs.LeastLemmas.{names_next}
use Rattle.sj_names.proofs.least.Least.add_domain_names.Goals as goal

pub loop-i-preserved : goal.loop-i-preserved
loop-i-preserved c =
    names_next c.args.domains.now.names.now c.loop-i.i c.index-domains-i.result (let t = c.loop-i-test.true in omega arith) c.index-domains-i.is _ c.loop-i.self.found c.add_names.new.self.found c.loop-i.invariant
    (c.add_names.ensures ∙ ap (λ l. least_of c.loop-i.self.found (flat_map own_failures l)) (c.deref.ensures.value ∙ ap (λ v. v.items) (sym c.index-domains-i.is)))
