use Rattle.std.proofs.Common.{◌∙◌, sym, [], ap, take, arith}
use Rattle.sj_names.specs.definitions.Failures.{least_of, domain_end_failures}
use Rattle.sj_names.specs.DomainNames.{names_in}
use Rattle.sj_names.proofs.LeastLemmas.{ends_next}
use Rattle.sj_names.proofs.least.Least.add_second_ends.Goals as goal

pub loop-i-preserved : goal.loop-i-preserved
loop-i-preserved c =
    ends_next c.args.domains.now.names.now c.loop-i.i c.index-domains-i.result (let t = c.loop-i-test.true in omega arith) c.index-domains-i.is _ c.loop-i.self.found c.add_domain_ends.new.self.found c.loop-i.invariant
    (c.in_ok-add_domain_ends.ensures ∙ ap (λ l. least_of c.loop-i.self.found (domain_end_failures (take c.loop-i.i (names_in c.args.domains.now)) [] l)) (c.deref.ensures.value ∙ ap (λ v. v.items) (sym c.index-domains-i.is)))
