-- What an accepted source tells of its system.
use Rattle.std.proofs.Common.{◌≡◌, ℕ, zero, suc, ◌<◌, ◌≤◌, ◌==◌, Bool, true, false, ◌&&◌, not, List, [], ◌∷◌, length, map, get_or, arith, refl, sym, ap, ◌∙◌, subst, Some, None}
use Rattle.std.specs.Prelude.{Option}
use Rattle.std.specs.Option.{is_some}
use Rattle.std.specs.List.{list_all}
use Rattle.std.proofs.lemmas.List.{length-map}
use Rattle.kernel_terms.specs.declared.term.Term.{Term}
use Rattle.java_values.specs.declared.kind.Kind.{Kind}
use Rattle.kernel_terms.specs.declared.system.System.{System}
use Rattle.kernel_terms.specs.declared.tables.SignalInfo.{SignalInfo}
use Rattle.kernel_terms.specs.declared.tables.Sort.{Sort}
use Rattle.kernel_terms.specs.declared.tables.Sort.TheVariants as sort
use Rattle.kernel_terms.specs.WellFormed.{is_default}
use Rattle.kernel_terms.specs.declared.tables.Tables.{Tables}
use Rattle.kernel_terms.specs.Systems.{domains_of}
use Rattle.kernel_terms.specs.TableEntries.{no_signal, is_input, is_interface_of}
use Rattle.kernel_terms.specs.Built.{is_built}
use Rattle.kernel_terms.specs.Statements.{Stmt, Nothing, statement}
use Rattle.kernel_terms.specs.MayEnd.{LoopsWait}
use Rattle.kernel_rules.specs.definitions.LegalTick.{Inputs}
use Rattle.tick_tree.specs.definitions.Weight.{weight_of, most_weight}
use Rattle.domain_core.specs.definitions.step.PureSignals.{IsPureOutput, HasPureOutputs}
use Rattle.domain_core.specs.definitions.step.Compiling.{CanCompile}
use Rattle.domain_core.specs.definitions.runs.Systems.{Setup, setup_of}
use Rattle.sj_accept.specs.definitions.BuiltTables.{is_output, is_pure_output, is_int_channel, tables_are_built}
use Rattle.sj_accept.specs.definitions.Programs.{domain_statements}
use Rattle.sj_accept.specs.definitions.Systems.{Accepts}
use Rattle.sj_main.specs.definitions.ProgramSetups.{program_setup}

-- the system is that of the program

same_statements : (bytes : List ℕ) (system : System) → (a : Accepts bytes system) → map statement (domains_of system) ≡ domain_statements a.program
same_statements bytes system a = ap (map statement) a.domains

pub same_setup : (bytes : List ℕ) (system : System) → (a : Accepts bytes system) → (inputs : Inputs) → setup_of system inputs ≡ program_setup a.program inputs
same_setup bytes system a inputs =
    ap (λ (x : Tables). let s : Setup = record { tables = x; statements = map statement (domains_of system); inputs = inputs } in s) a.tables
    ∙ ap (λ (x : List Stmt). let s : Setup = record { tables = a.program.tables; statements = x; inputs = inputs } in s) (same_statements bytes system a)

pub same_count : (bytes : List ℕ) (system : System) → (a : Accepts bytes system) → length (domains_of system) ≡ length (domain_statements a.program)
same_count bytes system a = ap length a.domains ∙ sym (length-map a.program.terms statement)

-- its domains can be compiled

both : (b c : Bool) → (b && c) ≡ true → (b ≡ true) × (c ≡ true)
both true c h = (refl, h)
both false c h = cc

built_at : (ts : List Term) (d : ℕ) (t : Term) → list_all is_built ts ≡ true → d < length ts → is_built (get_or ts d t) ≡ true
built_at [] d t h l = absurd (omega arith)
built_at (x ∷ ts) zero t h l = (both (is_built x) (list_all is_built ts) h).0
built_at (x ∷ ts) (suc d) t h l = built_at ts d t (both (is_built x) (list_all is_built ts) h).1 (omega arith)

no_interface : (b : Bool) → (b && false) ≡ true → ⊥
no_interface true h = cc
no_interface false h = cc

output_is : (s : Sort) → is_output s ≡ true → is_input s ≡ false
output_is sort.Input h = absurd (cc)
output_is sort.Output h = refl
output_is sort.Local h = absurd (cc)

pure_is : (k : Option Kind) → not (is_some k) ≡ true → k ≡ None
pure_is None h = refl
pure_is (Some k) h = absurd (cc)

pure_output : (s : SignalInfo) → is_pure_output s ≡ true → IsPureOutput s
pure_output s h =
    let b = both (is_output s.sort) (not (is_some s.kind) && is_default s.combine) h in
    record { output = output_is s.sort b.0; pure = pure_is s.kind (both (not (is_some s.kind)) (is_default s.combine) b.1).0 }

pure_at : (signals : List SignalInfo) (d s : ℕ) → list_all is_pure_output signals ≡ true → is_interface_of d (get_or signals s no_signal) ≡ true → IsPureOutput (get_or signals s no_signal)
pure_at [] d zero p h = absurd (no_interface (0 == d) h)
pure_at [] d (suc s) p h = absurd (no_interface (0 == d) h)
pure_at (x ∷ xs) d zero p h = pure_output x (both (is_pure_output x) (list_all is_pure_output xs) p).0
pure_at (x ∷ xs) d (suc s) p h = pure_at xs d s (both (is_pure_output x) (list_all is_pure_output xs) p).1 h

pub can_compile : (bytes : List ℕ) (system : System) → Accepts bytes system → (d : ℕ) → d < length (domains_of system) → CanCompile system d
can_compile bytes system a d l =
    let same = sym (same_statements bytes system a) in
    record {
      within = l;
      built = λ t. built_at (domains_of system) d t (ap (list_all is_built) a.domains ∙ a.built) l;
      loops = subst (λ (ps : List Stmt). LoopsWait (get_or ps d Nothing)) same (a.source.rules.loops d);
      weight = subst (λ (ps : List Stmt). weight_of (get_or ps d Nothing) ≤ most_weight) same (a.source.rules.weight d);
      pure = subst (λ (t : Tables). HasPureOutputs t d) (sym a.tables) (λ s h. pure_at a.program.tables.signals d s (both (list_all is_pure_output a.program.tables.signals) (list_all is_int_channel a.program.tables.channels) a.entries).0 h);
    }
