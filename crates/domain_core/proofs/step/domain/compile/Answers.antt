use Rattle.std.proofs.Common.{◌≡◌, ◌+◌, ◌<◌, length, get_or, ap, sym, ◌∙◌, subst, arith, [], false, pos}
use Rattle.std.specs.Prelude.{replicate}
use Rattle.std.specs.List.{range_with_len}
use Rattle.kernel_terms.specs.declared.tables.Tables.{Tables}
use Rattle.kernel_terms.specs.Systems.{tables_of, domains_of}
use Rattle.kernel_terms.specs.TableEntries.{interface_of, is_interface_of, numbers_where, variables_of, valued_of, received_by}
use Rattle.kernel_terms.specs.Marks.{Going}
use Rattle.kernel_rules.specs.definitions.Registers.{first_last, domain_registers}
use Rattle.domain_core.specs.declared.step.parts.Program.{Program}
use Rattle.domain_core.specs.equations.BuiltForms.{plain, whole}
use Rattle.domain_core.specs.equations.Codes.{AreCodes}
use Rattle.domain_core.specs.equations.Places.{plain_places}
use Rattle.domain_core.specs.definitions.step.Domains.{ends_from, ends_of}
use Rattle.domain_core.specs.step.DomainKeeps.{Keeps}
use Rattle.domain_core.specs.definitions.step.Compiling.{IsCompiled}
use Rattle.domain_core.proofs.lemmas.step.DomainSteps.{view_of, numbers_below}
use Rattle.domain_core.proofs.lemmas.step.CompilableDomains.{source_is}
use Rattle.domain_core.proofs.lemmas.step.CompiledDomains.{compiled}
use Rattle.domain_core.proofs.lemmas.step.LastValues.{count_registers}
use Rattle.domain_core.proofs.lemmas.equations.BuiltRules.{registers-whole}
use Rattle.domain_core.proofs.step.domain.compile.Goals as goal

pub new-requires-clause-own : goal.new-requires-clause-own
new-requires-clause-own c = λ k e less.
    let all = c.as_slice-signals.result.now in
    subst (λ l. k < length l → get_or l k e < length all) (sym (c.deref-2.ensures.value ∙ c.in_ok-own.ensures.numbers))
    (λ l. (let below = numbers_below (is_interface_of c.args.domain) 0 all k e l in omega (arith, below))) less

made : (c : goal.After-of) →
    Keeps c.args.system.now c.args.domain (record { codes = c.in_ok-codes.codes; ends = c.in_ok-ends.ends; last = c.in_ok-numbers_from.field-0 }) c.in_ok-state.state c.in_ok-scratch.scratch c.in_ok-log.log
    × IsCompiled c.args.system.now c.args.domain (view_of c.args.system.now c.args.domain c.in_ok-state.state c.in_ok-log.log)
made c =
    let s = c.args.system.now in
    let d = c.args.domain in
    let tables : c.tables-tables.result.now ≡ tables_of s = c.tables-tables.ensures in
    let signals : c.as_slice-signals.result.now ≡ (tables_of s).signals = c.as_slice-signals.ensures ∙ ap (λ (t : Tables). t.signals) tables in
    let channels : c.as_slice.result.now ≡ (tables_of s).channels = c.as_slice.ensures ∙ ap (λ (t : Tables). t.channels) tables in
    let count : length c.as_slice-signals.result.now ≡ length (tables_of s).signals = ap length signals in
    let program : Program = record { codes = c.in_ok-codes.codes; ends = c.in_ok-ends.ends; last = c.in_ok-numbers_from.field-0 } in
    let ends_count : c.len.result ≡ length program.ends.items = c.len.ensures ∙ program.ends.ok.0 in
    let term = c.index-terms-domain.result in
    let is_term : term ≡ get_or (domains_of s) d term = c.index-terms-domain.is ∙ ap (λ l. get_or l d term) c.domains-terms.ensures in
    let p = plain term in
    let own : c.in_ok-own.own.items ≡ interface_of (tables_of s) d = c.in_ok-own.ensures.numbers ∙ ap (numbers_where (is_interface_of d) 0) signals in
    let are : AreCodes program.codes p (length (tables_of s).signals) (interface_of (tables_of s) d) =
    subst (AreCodes program.codes p (length (tables_of s).signals)) (c.deref-2.ensures.value ∙ own) (subst (λ n. AreCodes program.codes p n c.deref-2.result.now) count c.in_ok-codes.ensures.codes) in
    let ends_are : program.ends.items ≡ ends_of (tables_of s) d = c.in_ok-ends.ensures.all ∙ ap (ends_from d 0) channels in
    let variables : c.count_variables.result ≡ length (variables_of (tables_of s) d) = c.count_variables.ensures ∙ ap (λ (t : Tables). length (variables_of t d)) tables in
    let values : c.count_values.result ≡ length (valued_of (tables_of s) d) = c.count_values.ensures.count ∙ ap (λ (t : Tables). length (valued_of t d)) tables in
    let received : c.count_received-received.result ≡ length (received_by (tables_of s) d) = c.count_received-received.ensures.count ∙ ap (λ (t : Tables). length (received_by t d)) tables in
    let held : c.register_count.result ≡ program.codes.registers = c.register_count.ensures in
    let first : c.register_count.result + (c.count_variables.result + c.count_values.result) ≡ first_last (tables_of s) d (whole p) = omega (arith, variables, values, held, are.register_count, registers-whole (tables_of s) p) in
    let all : c.register_count.result + (c.count_variables.result + c.count_values.result) + c.count_received-received.result ≡ length (domain_registers (tables_of s) d (whole p)) =
    omega (arith, first, received, count_registers (tables_of s) d (whole p)) in
    let st = c.in_ok-state.ensures in
    compiled s d program c.in_ok-state.state c.in_ok-scratch.scratch c.in_ok-log.log p c.requires (source_is s d term c.requires is_term) are
    (c.in_ok-codes.ensures.places ∙ ap (λ l. plain_places l p 0) (c.deref.ensures.value ∙ ends_are))
    (c.in_ok-numbers_from.ensures ∙ ap (λ n. range_with_len n c.count_received-received.result) first ∙ ap (range_with_len (first_last (tables_of s) d (whole p))) received)
    ends_are
    (st.registers ∙ ap (λ n. replicate n (pos 0)) all) (st.standing ∙ ap (λ n. replicate n false) ends_count) (st.joins ∙ ap (λ n. replicate n []) ends_count) st.stamp st.cause st.stopped
    c.in_ok-scratch.ensures
    (c.in_ok-log.ensures.log ∙ ap (λ n. record { entries = []; mark = Going; signals = n; room = 0 }) (c.len-2.ensures ∙ c.in_ok-own.own.ok.0 ∙ ap length own))

pub invariant_of-result : goal.invariant_of-result
invariant_of-result c =
    subst (λ x. Keeps x c.args.domain (record { codes = c.in_ok-codes.codes; ends = c.in_ok-ends.ends; last = c.in_ok-numbers_from.field-0 }) c.in_ok-state.state c.in_ok-scratch.scratch c.in_ok-log.log) (sym c.of.ensures) (made c).0

pub returns : goal.returns
returns c = subst (λ x. IsCompiled c.args.system.now c.args.domain (view_of x c.args.domain c.in_ok-state.state c.in_ok-log.log)) (sym c.of.ensures) (made c.before).1
