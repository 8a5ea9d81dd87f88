-- The tables and the terms of a typed tree are a system.
use Rattle.std.proofs.Common.{◌≡◌, ℕ, suc, Bool, true, false, ◌&&◌, ◌||◌, not, nat_lt, List, [], ◌∷◌, ◌++◌, length, map, ap, refl, sym, ◌∙◌, subst, None, Some}
use Rattle.std.specs.Prelude.{Option}
use Rattle.std.specs.List.{list_all}
use Rattle.std.specs.Option.{is_some}
use Rattle.java_values.specs.declared.kind.Kind.{Kind}
use Rattle.kernel_terms.specs.declared.term.Term.{Term}
use Rattle.kernel_terms.specs.declared.tables.SignalInfo.{SignalInfo}
use Rattle.kernel_terms.specs.declared.tables.Sort.{Sort}
use Rattle.kernel_terms.specs.declared.tables.Sort.TheVariants as sort
use Rattle.kernel_terms.specs.declared.tables.Combine.{Combine}
use Rattle.kernel_terms.specs.declared.tables.Tables.{Tables}
use Rattle.kernel_terms.specs.TableEntries.{is_local, numbers_where}
use Rattle.kernel_terms.specs.Divisors.{divisors_are_allowed}
use Rattle.kernel_terms.specs.Statements.{statement}
use Rattle.kernel_terms.specs.WellFormed.{has_names, is_within_limits, has_entries, is_signal_entry, is_channel_entry, is_variable_entry, interface_comes_first, combines, is_default, has_parts, fits_statement, fit_statements, declared_by, declared_by_all, declares_each_once, are_apart, stands_in, is_well_formed}
use Rattle.sj_names.specs.definitions.FittingTrees.{at_start, term_scope, fits_block, fit_domains, fits_tree}
use Rattle.sj_names.specs.definitions.SoundTables.{has_domain, AreSoundTables}
use Rattle.java_types.specs.definitions.FittingKinds.{kind_rules}
use Rattle.java_types.specs.definitions.TypedTrees.{TypedTree, TypedBlock}
use Rattle.sj_accept.specs.BuiltTerms.{IsBuilt, AreBuilt}
use Rattle.sj_accept.specs.Lowered.{AreTerms, AreTermsOf}
use Rattle.sj_accept.specs.definitions.BuiltTables.{is_output, is_pure_output, is_int_channel, tables_are_built}

both : (a b : Bool) → (a && b) ≡ true → (a ≡ true) × (b ≡ true)
both true b h = (refl, h)
both false b h = cc

and_true : (a b : Bool) → a ≡ true → b ≡ true → (a && b) ≡ true
and_true true b g h = h
and_true false b g h = g

-- entries

pure_combines : (k : Option Kind) (c : Combine) → not (is_some k) ≡ true → is_default c ≡ true → combines k c ≡ true
pure_combines None c h d = d
pure_combines (Some k) c h d = absurd (cc)

signal_entries : (n : ℕ) (signals : List SignalInfo) → list_all (has_domain n) signals ≡ true → list_all is_pure_output signals ≡ true → list_all (is_signal_entry n) signals ≡ true
signal_entries n [] h b = refl
signal_entries n (s ∷ ss) h b =
    let x = both (has_domain n s) (list_all (has_domain n) ss) h in
    let y = both (is_pure_output s) (list_all is_pure_output ss) b in
    let z = both (is_output s.sort) (not (is_some s.kind) && is_default s.combine) y.0 in
    let w = both (not (is_some s.kind)) (is_default s.combine) z.1 in
    and_true (is_signal_entry n s) (list_all (is_signal_entry n) ss) (and_true (nat_lt s.domain n) (combines s.kind s.combine) x.0 (pure_combines s.kind s.combine w.0 w.1)) (signal_entries n ss x.1 y.1)

output_is_not_local : (s : Sort) → is_output s ≡ true → is_local s ≡ false
output_is_not_local sort.Input h = refl
output_is_not_local sort.Output h = refl
output_is_not_local sort.Local h = absurd (cc)

no_locals : (n : ℕ) (signals : List SignalInfo) → list_all is_pure_output signals ≡ true → numbers_where (λ (s : SignalInfo). is_local s.sort) n signals ≡ []
no_locals n [] b = refl
no_locals n (s ∷ ss) b =
    let y = both (is_pure_output s) (list_all is_pure_output ss) b in
    let z = both (is_output s.sort) (not (is_some s.kind) && is_default s.combine) y.0 in
    ap (λ c. Rattle.std.specs.Prelude.cond c (n ∷ numbers_where (λ (x : SignalInfo). is_local x.sort) (suc n) ss) (numbers_where (λ (x : SignalInfo). is_local x.sort) (suc n) ss)) (output_is_not_local s.sort z.0)
    ∙ no_locals (suc n) ss y.1

-- terms

pub all_built_terms : (bs : List TypedBlock) (ts : List Term) → AreTerms bs ts → AreBuilt ts
all_built_terms [] [] a = tt
all_built_terms [] (t ∷ ts) a = absurd a
all_built_terms (b ∷ bs) [] a = absurd a
all_built_terms (b ∷ bs) (t ∷ ts) a = (a.0.built, all_built_terms bs ts a.1)

terms_count : (bs : List TypedBlock) (ts : List Term) → AreTerms bs ts → length ts ≡ length bs
terms_count [] [] a = refl
terms_count [] (t ∷ ts) a = absurd a
terms_count (b ∷ bs) [] a = absurd a
terms_count (b ∷ bs) (t ∷ ts) a = ap suc (terms_count bs ts a.1)

all_parts : (ts : List Term) → AreBuilt ts → list_all has_parts ts ≡ true
all_parts [] b = refl
all_parts (t ∷ ts) b = and_true (has_parts t) (list_all has_parts ts) b.0.parts (all_parts ts b.1)

declare_none : (ts : List Term) → AreBuilt ts → declared_by_all (map statement ts) ≡ []
declare_none [] b = refl
declare_none (t ∷ ts) b = ap (λ l. l ++ declared_by_all (map statement ts)) b.0.declares ∙ declare_none ts b.1

domains_fit : (t : Tables) (d : ℕ) (bs : List TypedBlock) (ts : List Term) → AreTerms bs ts → fit_domains t (kind_rules t) d bs ≡ true → fit_statements t d (map statement ts) ≡ true
domains_fit t d [] [] a h = refl
domains_fit t d [] (x ∷ ts) a h = absurd a
domains_fit t d (b ∷ bs) [] a h = absurd a
domains_fit t d (b ∷ bs) (x ∷ ts) a h =
    let f = both (fits_block t (kind_rules t) b (at_start d)).fits (fit_domains t (kind_rules t) (suc d) bs) h in
    and_true (fits_statement t (term_scope (at_start d)) (statement x)) (fit_statements t (suc d) (map statement ts)) (a.0.fits t (at_start d) f.0).keeps (domains_fit t (suc d) bs ts a.1 f.1)

pub domains_divided : (t : Tables) (d : ℕ) (bs : List TypedBlock) (ts : List Term) → AreTerms bs ts → fit_domains t (kind_rules t) d bs ≡ true → list_all divisors_are_allowed (map statement ts) ≡ true
domains_divided t d [] [] a h = refl
domains_divided t d [] (x ∷ ts) a h = absurd a
domains_divided t d (b ∷ bs) [] a h = absurd a
domains_divided t d (b ∷ bs) (x ∷ ts) a h =
    let f = both (fits_block t (kind_rules t) b (at_start d)).fits (fit_domains t (kind_rules t) (suc d) bs) h in
    and_true (divisors_are_allowed (statement x)) (list_all divisors_are_allowed (map statement ts)) (a.0.fits t (at_start d) f.0).divisors (domains_divided t (suc d) bs ts a.1 f.1)

once : (t : Tables) (ts : List Term) → list_all is_pure_output t.signals ≡ true → AreBuilt ts → declares_each_once t (map statement ts) ≡ true
once t ts p b =
    ap (λ l. are_apart l && list_all (λ s. stands_in s l) (numbers_where (λ (s : SignalInfo). is_local s.sort) 0 t.signals)) (declare_none ts b)
    ∙ ap (list_all (λ s. stands_in s [])) (no_locals 0 t.signals p)

pub well_formed : (t : Tables) (tree : TypedTree) (ts : List Term) → AreSoundTables t (length tree.domains) → fits_tree t (kind_rules t) tree ≡ true → tables_are_built t ≡ true → AreTermsOf tree.domains ts → is_well_formed t ts ≡ true
well_formed t tree ts s f b a =
    let n = sym (terms_count tree.domains ts a.terms_of) in
    let p = both (list_all is_pure_output t.signals) (list_all is_int_channel t.channels) b in
    let built = all_built_terms tree.domains ts a.terms_of in
    and_true (has_names t) _ s.names
    (and_true (is_within_limits t (length ts)) _ (subst (λ m. is_within_limits t m ≡ true) n s.limits)
    (and_true (has_entries t (length ts)) _
    (subst (λ m. has_entries t m ≡ true) n
    (and_true (list_all (is_signal_entry (length tree.domains)) t.signals) _ (signal_entries (length tree.domains) t.signals s.signals p.0)
    (and_true (interface_comes_first t.signals) _ s.order
    (and_true (list_all (is_channel_entry (length tree.domains)) t.channels) (list_all (is_variable_entry (length tree.domains)) t.variables) s.channels s.variables))))
    (and_true (list_all has_parts ts) _ (all_parts ts built)
    (and_true (fit_statements t 0 (map statement ts)) _ (domains_fit t 0 tree.domains ts a.terms_of f) (once t ts p.0 built)))))
