use Rattle.std.proofs.Common.{◌≡◌, subst, sym, true, ◌∙◌}
use Rattle.kernel_terms.specs.WellFormed.{is_well_formed}
use Rattle.domain_core.specs.step.SmallDomains.{pure_domains}
use Rattle.domain_core.proofs.lemmas.equations.PairTerms.{pair_fits}
use Rattle.gals_core.proofs.tests.two_domains.Goals as goal

pub new-requires : goal.new-requires
new-requires c =
    subst (λ t. is_well_formed t c.from_vec.result ≡ true) (sym c.in_ok-tables.ensures)
    (subst (λ l. is_well_formed pure_domains l ≡ true) (sym (c.from_vec.ensures ∙ c.in_ok-domains.ensures.items))
    (pair_fits c.in_ok-sending.sending c.in_ok-receiving.receiving c.in_ok-sending.ensures c.in_ok-receiving.ensures))

pub returns : goal.returns
returns c = record {
  tables = c.new.ensures.tables ∙ c.in_ok-tables.ensures;
  sending = c.in_ok-sending.sending;
  receiving = c.in_ok-receiving.receiving;
  domains = c.new.ensures.domains ∙ c.from_vec.ensures ∙ c.in_ok-domains.ensures.items;
  sends = c.in_ok-sending.ensures;
  receives = c.in_ok-receiving.ensures;
}
