use Rattle.std.proofs.Common.{◌∙◌, sym, ap, take, arith}
use Rattle.std.specs.List.{flat_map}
use Rattle.sj_names.specs.declared.mention.Use.TheVariants.{PortSignal}
use Rattle.sj_names.specs.definitions.Failures.{least_of, number_in, shared_failure}
use Rattle.sj_names.specs.DomainNames.{names_in}
use Rattle.sj_names.proofs.LeastLemmas.{shared_next}
use Rattle.sj_names.proofs.least.Least.add_shared.Goals as goal

pub loop-i-preserved : goal.loop-i-preserved
loop-i-preserved c =
    shared_next c.args.domains.now.names.now c.loop-i.i c.index-domains-i.result (let t = c.loop-i-test.true in omega arith) c.index-domains-i.is _ c.loop-i.self.found c.add_shared_names.new.self.found c.loop-i.invariant
    (c.add_shared_names.ensures ∙ ap (λ l. least_of c.loop-i.self.found (flat_map (λ m. shared_failure (take c.loop-i.i (names_in c.args.domains.now)) m.at (number_in PortSignal m)) l)) (c.deref.ensures.value ∙ ap (λ v. v.items) (sym c.index-domains-i.is)))
