use Rattle.std.proofs.Common.{◌≡◌, subst, sym, pos, true, ◌∙◌, None}
use Rattle.java_values.specs.declared.kind.Kind.TheVariants as kind
use Rattle.kernel_terms.specs.Expressions.{Literal}
use Rattle.kernel_terms.specs.Statements.{Emit, Send, Receive}
use Rattle.kernel_terms.specs.WellFormed.{is_well_formed}
use Rattle.domain_core.specs.step.SmallDomains.{IsTermOf, pure_domains}
use Rattle.domain_core.proofs.lemmas.equations.PairTerms.{sending, receiving, pair_fits}
use Rattle.domain_core.proofs.step.domain_tests.pair.Goals as goal

pub new-requires : goal.new-requires
new-requires c =
    let a = c.in_ok-sending.sending in
    let b = c.in_ok-receiving.receiving in
    let first : IsTermOf sending a = c.in_ok-sending.ensures (Send 0 (Literal kind.Int (pos 5))) (Emit 0 None) c.send.ensures c.emit.ensures in
    let second : IsTermOf receiving b = c.in_ok-receiving.ensures (Receive 0) (Emit 1 None) c.receive.ensures c.emit-2.ensures in
    subst (λ t. is_well_formed t c.from_vec.result ≡ true) (sym c.in_ok-tables.ensures)
    (subst (λ l. is_well_formed pure_domains l ≡ true) (sym (c.from_vec.ensures ∙ c.in_ok-domains.ensures.items)) (pair_fits a b first second))

pub returns : goal.returns
returns c = record {
  tables = c.new.ensures.tables ∙ c.in_ok-tables.ensures;
  sending = c.in_ok-sending.sending;
  receiving = c.in_ok-receiving.receiving;
  domains = c.new.ensures.domains ∙ c.from_vec.ensures ∙ c.in_ok-domains.ensures.items;
  sends = c.in_ok-sending.ensures (Send 0 (Literal kind.Int (pos 5))) (Emit 0 None) c.send.ensures c.emit.ensures;
  receives = c.in_ok-receiving.ensures (Receive 0) (Emit 1 None) c.receive.ensures c.emit-2.ensures;
}
