-- What a domain that can be compiled has: equations within the limits, and an end for each send and receive.
use Rattle.std.proofs.Common.{◌≡◌, ◌≢◌, ℕ, ◌<◌, ◌≤◌, Bool, true, false, [], length, get_or, refl, sym, ap, ◌∙◌, subst, arith}
use Rattle.std.specs.Prelude.{◌&&◌, ◌||◌, not, None}
use Rattle.std.proofs.lemmas.Bool.{true≢false}
use Rattle.std.proofs.lemmas.List.{get_or-map}
use Rattle.java_values.specs.declared.kind.Kind.TheVariants as kind
use Rattle.kernel_terms.specs.declared.term.Term.{Term}
use Rattle.kernel_terms.specs.declared.system.System.{System}
use Rattle.kernel_terms.specs.declared.tables.Tables.{Tables}
use Rattle.kernel_terms.specs.Systems.{tables_of, domains_of}
use Rattle.kernel_terms.specs.TableEntries.{signal_at, is_input, is_interface_of}
use Rattle.kernel_terms.specs.Statements.{statement}
use Rattle.kernel_terms.specs.Statements as rules
use Rattle.kernel_terms.specs.MayEnd as ends
use Rattle.kernel_terms.specs.WellFormed.{Scope, fits_statement, can_use, is_emission}
use Rattle.tick_tree.specs.definitions.Weight as weight
use Rattle.kernel_terms.specs.Built.{is_built}
use Rattle.domain_core.specs.definitions.step.Compiling.{CanCompile}
use Rattle.domain_core.specs.definitions.step.Domains.{ends_of}
use Rattle.domain_core.specs.definitions.runs.Systems.{source_of}
use Rattle.domain_core.specs.equations.BuiltForms.{Plain, Nothing, Pause, Emit, Seq, Loop, Send, Receive, whole, plain}
use Rattle.domain_core.specs.equations.BuiltLimits.{EmitsBelow, CanBuild}
use Rattle.domain_core.specs.step.StatementEnds.{HaveEnds}
use Rattle.domain_core.proofs.lemmas.equations.BuiltTrees.{built_stands}
use Rattle.domain_core.proofs.lemmas.equations.BuiltCopies.{copies_are_fewer}
use Rattle.domain_core.proofs.lemmas.runs.WellFormedSystems.{left, right, source_fits}
use Rattle.domain_core.proofs.lemmas.step.SourceEnds.{source_ends}
use Rattle.domain_core.proofs.lemmas.step.TickStates.{interface_below}

no_locals : (b : Bool) → b || false ≡ true → b ≡ true
no_locals true h = refl
no_locals false h = absurd (true≢false (sym h))

-- in a well-formed statement without locals each emission is of a signal
emits_below : (t : Tables) (d : ℕ) (p : Plain) → fits_statement t (record { domain = d; traps = 0; locals = [] }) (whole p) ≡ true → EmitsBelow (length t.signals) p
emits_below t d Nothing h = tt
emits_below t d Pause h = tt
emits_below t d (Emit s) h =
    let scope : Scope = record { domain = d; traps = 0; locals = [] } in
    let may = left (can_use t scope s && not (is_input (signal_at t s).sort)) (is_emission t scope (signal_at t s).kind None) h in
    interface_below t d s (no_locals (is_interface_of d (signal_at t s)) (left (can_use t scope s) (not (is_input (signal_at t s).sort)) may))
emits_below t d (Seq p q) h =
    let scope : Scope = record { domain = d; traps = 0; locals = [] } in
    (emits_below t d p (left (fits_statement t scope (whole p)) (fits_statement t scope (whole q)) h), emits_below t d q (right (fits_statement t scope (whole p)) (fits_statement t scope (whole q)) h))
emits_below t d (Loop p) h = emits_below t d p h
emits_below t d (Send c v) h = tt
emits_below t d (Receive c) h = tt

module _ (system : System) (d : ℕ) (p : Plain) (within : d < length (domains_of system)) (is : source_of system d ≡ whole p) where
  fits_whole : fits_statement (tables_of system) (record { domain = d; traps = 0; locals = [] }) (whole p) ≡ true
  fits_whole = subst (λ s. fits_statement (tables_of system) (record { domain = d; traps = 0; locals = [] }) s ≡ true) is
      (subst (λ k. fits_statement (tables_of system) (record { domain = k; traps = 0; locals = [] }) (source_of system d) ≡ true) (omega arith) (source_fits system d within))

  pub has_ends : HaveEnds (ends_of (tables_of system) d) (whole p)
  has_ends = subst (HaveEnds (ends_of (tables_of system) d)) is (source_ends system d within)

pub source_is : (system : System) (d : ℕ) (term : Term) → CanCompile system d → term ≡ get_or (domains_of system) d term → source_of system d ≡ whole (plain term)
source_is system d term can is =
    get_or-map statement (domains_of system) d term rules.Nothing can.within ∙ ap statement (sym is) ∙ built_stands term (ap is_built is ∙ can.built term)

pub is_built_term : (system : System) (d : ℕ) (term : Term) → CanCompile system d → term ≡ get_or (domains_of system) d term → is_built term ≡ true
is_built_term system d term can is = ap is_built is ∙ can.built term

pub can_build : (system : System) (d : ℕ) (term : Term) → CanCompile system d → term ≡ get_or (domains_of system) d term → CanBuild (length (tables_of system).signals) (plain term)
can_build system d term can is =
    let p = plain term in
    let s = source_is system d term can is in
    let few = copies_are_fewer p in
    let light = subst (λ x. weight.weight_of x ≤ weight.most_weight) s can.weight in
    record {
      waits = subst ends.LoopsWait s can.loops;
      emits = emits_below (tables_of system) d p (fits_whole system d p can.within s);
      copies = omega (arith, few, light);
    }

pub ruleset can_builds = (is_built_term, can_build)
