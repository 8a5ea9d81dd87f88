use Rattle.std.proofs.Common.{◌∙◌, sym, ap, arith}
use Rattle.std.proofs.lemmas.List.{length-map}
use Rattle.sj_names.specs.definitions.Failures.{least_of, limit_failures}
use Rattle.sj_names.specs.DomainNames.{names_in}
use Rattle.sj_names.proofs.LeastLemmas.{limits_next}
use Rattle.sj_names.proofs.OwnedLemmas.{owned_at}
use Rattle.sj_names.proofs.least.Least.add_limits.Goals as goal

pub loop-i-preserved : goal.loop-i-preserved
loop-i-preserved c =
    limits_next c.args.domains.now.names.now c.loop-i.i c.index-domains-i.result (let t = c.loop-i-test.true in omega arith) c.index-domains-i.is (names_in c.args.domains.now) c.args.places.now c.deref.result.now _ c.loop-i.self.found c.add_domain_limits.new.self.found
    (c.deref.ensures.value ∙ owned_at (names_in c.args.domains.now) c.args.places.now c.in_ok-owned.owned.items c.loop-i.i c.index.result.now (let t = c.loop-i-test.true in let l = length-map c.args.domains.now.names.now (λ d. d.items) in omega arith) c.index.ensures c.in_ok-owned.ensures)
    c.loop-i.invariant (c.in_ok-add_domain_limits.ensures ∙ ap (λ l. least_of c.loop-i.self.found (limit_failures c.deref.result.now l)) (c.deref-in-loop-i.ensures.value ∙ ap (λ v. v.items) (sym c.index-domains-i.is)))
