-- A compiled domain keeps what a step needs.
use Rattle.std.proofs.Common.{◌≡◌, ℕ, suc, zero, ◌+◌, ◌<◌, ℤ, pos, true, false, [], length, get_or, Vec, T, refl, sym, ap, ◌∙◌, subst, arith}
use Rattle.std.specs.Prelude.{◌&&◌, replicate, int_le}
use Rattle.std.specs.Global.{Global}
use Rattle.std.specs.Int.Signed.{le_z_yes, ◌≤ℤ◌}
use Rattle.std.proofs.lemmas.Bool.{true≢false}
use Rattle.std.proofs.lemmas.List.{length-replicate, length-map}
use Rattle.java_values.specs.declared.kind.Kind.{Kind}
use Rattle.java_values.specs.declared.kind.Kind.TheVariants as kind
use Rattle.java_values.specs.Kinds.{IsInRange, lowest, highest}
use Rattle.kernel_terms.specs.declared.system.System.{System}
use Rattle.kernel_terms.specs.declared.tables.Tables.{Tables}
use Rattle.kernel_terms.specs.Systems.{tables_of, domains_of}
use Rattle.kernel_terms.specs.TableEntries.{channel_at, interface_of}
use Rattle.kernel_terms.specs.WellFormed.{Scope, fits_statement, same_kind}
use Rattle.tick_log.specs.definitions.Containers.{LogState}
use Rattle.kernel_terms.specs.Marks.{Going}
use Rattle.kernel_rules.specs.definitions.Registers.{domain_registers, variables_held, values_held, last_held}
use Rattle.domain_core.specs.declared.step.ends_of.EndJoin.{EndJoin}
use Rattle.domain_core.specs.step.StepParts.{FitsAfter, pending}
use Rattle.domain_core.specs.declared.step.parts.Program.{Program}
use Rattle.domain_core.specs.declared.step.parts.State.{State}
use Rattle.domain_core.specs.declared.step.parts.Scratch.{Scratch}
use Rattle.domain_core.specs.equations.BuiltForms.{Plain, Nothing, Pause, Emit, Seq, Loop, Send, Receive, whole}
use Rattle.domain_core.specs.equations.BuiltRegisters.{registers}
use Rattle.domain_core.specs.equations.Codes.{AreCodes}
use Rattle.domain_core.specs.equations.SendsFit.{SendsFit}
use Rattle.domain_core.specs.definitions.step.Domains.{ends_of, ends_from, joins_at, register_at, state_held}
use Rattle.domain_core.specs.definitions.runs.Systems.{source_of}
use Rattle.domain_core.specs.definitions.step.EndRegisters.{last_places}
use Rattle.domain_core.specs.equations.Places.{plain_places}
use Rattle.domain_core.specs.step.Answers.{newest_of}
use Rattle.domain_core.specs.step.JoinLists.{joins_in}
use Rattle.domain_core.specs.step.EndPlaces.{PlacesFit, LastFits, HaveOwnRegisters}
use Rattle.domain_core.specs.definitions.step.Compiling.{CanCompile, IsCompiled}
use Rattle.domain_core.specs.step.DomainKeeps.{HasScratch, Keeps}
use Rattle.domain_core.proofs.lemmas.step.PhaseStates.{all_fit, own_registers}
use Rattle.domain_core.proofs.lemmas.step.CompilableDomains.{has_ends}
use Rattle.domain_core.proofs.lemmas.step.SourceEnds.{channels_apart}
use Rattle.domain_core.proofs.lemmas.step.LastValues.{last_fits, variables_zero, values_zero, last_zero}
use Rattle.domain_core.proofs.lemmas.step.StateAnswers.{same_state}
use Rattle.domain_core.proofs.lemmas.step.DomainSteps.{view_of}
use Rattle.domain_core.proofs.lemmas.runs.WellFormedSystems.{left, right, source_fits}

at_most : (m n : ℤ) → int_le m n ≡ true → m ≤ℤ n
at_most m n h = le_z_yes (subst T (sym h) tt)

int_kind : (k : Kind) → same_kind kind.Int k ≡ true → k ≡ kind.Int
int_kind kind.Int h = refl
int_kind kind.Boolean h = absurd (true≢false (sym h))
int_kind kind.Byte h = absurd (true≢false (sym h))
int_kind kind.Short h = absurd (true≢false (sym h))
int_kind kind.Char h = absurd (true≢false (sym h))
int_kind kind.Long h = absurd (true≢false (sym h))

-- in a well-formed statement each literal that is sent has its channel's kind
sends_fit : (t : Tables) (scope : Scope) (p : Plain) → fits_statement t scope (whole p) ≡ true → SendsFit t p
sends_fit t scope Nothing h = tt
sends_fit t scope Pause h = tt
sends_fit t scope (Emit s) h = tt
sends_fit t scope (Seq p q) h =
    (sends_fit t scope p (left (fits_statement t scope (whole p)) (fits_statement t scope (whole q)) h), sends_fit t scope q (right (fits_statement t scope (whole p)) (fits_statement t scope (whole q)) h))
sends_fit t scope (Loop p) h = sends_fit t scope p h
sends_fit t scope (Send c n) h =
    let given = right _ ((int_le (lowest kind.Int) n && int_le n (highest kind.Int)) && same_kind kind.Int (channel_at t c).kind) h in
    let range = left (int_le (lowest kind.Int) n && int_le n (highest kind.Int)) (same_kind kind.Int (channel_at t c).kind) given in
    let same = right (int_le (lowest kind.Int) n && int_le n (highest kind.Int)) (same_kind kind.Int (channel_at t c).kind) given in
    subst (λ k. IsInRange k n) (sym (int_kind (channel_at t c).kind same))
    (record { low = at_most (lowest kind.Int) n (left (int_le (lowest kind.Int) n) (int_le n (highest kind.Int)) range); high = at_most n (highest kind.Int) (right (int_le (lowest kind.Int) n) (int_le n (highest kind.Int)) range) })
sends_fit t scope (Receive c) h = tt

pub system_sends_fit : (system : System) (d : ℕ) (p : Plain) → d < length (domains_of system) → source_of system d ≡ whole p → SendsFit (tables_of system) p
system_sends_fit system d p less is =
    let t = tables_of system in
    let scope : Scope = record { domain = 0 + d; traps = 0; locals = [] } in
    sends_fit t scope p (subst (λ s. fits_statement t scope s ≡ true) is (source_fits system d less))

no_joins : (t n : ℕ) → newest_of t (replicate n []) ≡ 0
no_joins t zero = refl
no_joins t (suc n) = let i = no_joins t n in omega (arith, i)

empty_at : (n k : ℕ) → joins_at (replicate n []) k ≡ []
empty_at zero k = refl
empty_at (suc n) zero = refl
empty_at (suc n) (suc k) = empty_at n k

false_at : (n k : ℕ) → get_or (replicate n false) k false ≡ false
false_at zero k = refl
false_at (suc n) zero = refl
false_at (suc n) (suc k) = false_at n k

zero_at : (n k : ℕ) → register_at (replicate n (pos 0)) k ≡ pos 0
zero_at zero k = refl
zero_at (suc n) zero = refl
zero_at (suc n) (suc k) = zero_at n k

module _ (system : System) (d : ℕ) (program : Program) (state : State) (scratch : Scratch) (log : LogState) (source : Plain)
    (can : CanCompile system d) (source_is : source_of system d ≡ whole source)
    (are : AreCodes program.codes source (length (tables_of system).signals) (interface_of (tables_of system) d)) (places : program.codes.places.items ≡ plain_places (ends_of (tables_of system) d) source 0)
    (last : program.last.items ≡ last_places (tables_of system) d (whole source))
    (ends : program.ends.items ≡ ends_from d 0 (tables_of system).channels)
    (registers : state.registers.items ≡ replicate (length (domain_registers (tables_of system) d (whole source))) (pos 0))
    (standing : state.standing.items ≡ replicate (length program.ends.items) false) (joins : joins_in state.joins.items ≡ replicate (length program.ends.items) [])
    (stamp : state.stamp ≡ 0) (cause : state.cause ≡ 0) (going : state.stopped ≡ false)
    (memory : HasScratch program scratch)
    (logged : log ≡ record { entries = []; mark = Going; signals = length (interface_of (tables_of system) d); room = 0 }) where
  count : length state.registers.items ≡ length (domain_registers (tables_of system) d (whole source))
  count = ap length registers ∙ length-replicate (length (domain_registers (tables_of system) d (whole source))) (pos 0)

  compiled_keeps : Keeps system d program state scratch log
  compiled_keeps =
      let none : length log.entries ≡ 0 = ap (λ (l : LogState). length l.entries) logged in
      let no_room : log.room ≡ 0 = ap (λ (l : LogState). l.room) logged in
      let list_count : length state.joins.items ≡ length program.ends.items =
      sym (length-map state.joins.items (λ (v : Vec EndJoin Global). v.items)) ∙ ap length joins ∙ length-replicate (length program.ends.items) [] in
      let off : (k : ℕ) → get_or state.standing.items k false ≡ false = λ k. ap (λ l. get_or l k false) standing ∙ false_at (length program.ends.items) k in
      record {
        source = source;
        is_program = record { statement = source_is; are = are; ends = ends; places = places; last = last; pure = can.pure; sends = system_sends_fit system d source can.within source_is; has_ends = has_ends system d source can.within source_is };
        memory = memory;
        is_state = record {
          registers = count;
          fits = λ is. subst (λ n. FitsAfter (tables_of system) source n (register_at state.registers.items)) (sym none) tt;
          stands = λ k less is. absurd (true≢false (sym is ∙ off k));
          goes = λ k less is. absurd (true≢false (sym is ∙ off k));
          last = omega (arith, stamp);
          cause =
              let z = ap (newest_of (length log.entries)) joins ∙ no_joins (length log.entries) (length program.ends.items) in
              omega (arith, cause, stamp, z);
          later = λ t low. ap (newest_of t) joins ∙ no_joins t (length program.ends.items);
        };
        parts = record {
          standing = ap length standing ∙ length-replicate (length program.ends.items) false;
          lists = list_count;
          places = subst (λ l. PlacesFit l (length program.ends.items) (length state.registers.items)) (sym places)
              (subst (λ l. PlacesFit (plain_places (ends_of (tables_of system) d) source 0) (length l) (length state.registers.items)) (sym ends)
              (all_fit (tables_of system) d source (channels_apart system) (has_ends system d source can.within source_is) (length state.registers.items) count));
          last = subst (λ l. LastFits l program.ends.items (length state.registers.items)) (sym last)
              (subst (λ l. LastFits (last_places (tables_of system) d (whole source)) l (length state.registers.items)) (sym ends) (last_fits (tables_of system) d (whole source) (channels_apart system) (length state.registers.items) count));
          own = subst (λ l. HaveOwnRegisters l program.last.items) (sym places)
              (subst (HaveOwnRegisters (plain_places (ends_of (tables_of system) d) source 0)) (sym last) (own_registers (tables_of system) d source (channels_apart system) (has_ends system d source can.within source_is)));
          counts = λ k less.
              let here = ap (λ l. length (joins_at l k)) joins ∙ ap length (empty_at (length program.ends.items) k) in
              let free = ap pending (off k) in
              omega (arith, here, free);
          memory = λ k v less. omega (arith, none, no_room);
          limit = omega (arith, cause);
        };
        log_signals = ap (λ (l : LogState). l.signals) logged ∙ sym are.signal_count;
      }

  is_compiled : IsCompiled system d (view_of system d state log)
  is_compiled = record {
    of_system = refl;
    number = refl;
    log = logged;
    spare = ap (λ (l : LogState). l.room) logged;
    going = going;
    registers = registers ∙ ap (λ p. replicate (length (domain_registers (tables_of system) d p)) (pos 0)) (sym source_is);
    stamp = stamp;
    standing = λ n. ap (λ l. get_or l n false) standing ∙ false_at (length program.ends.items) n;
    lists = ap length joins ∙ length-replicate (length program.ends.items) [] ∙ ap length ends;
    joins = λ n. ap (λ l. joins_at l n) joins ∙ empty_at (length program.ends.items) n;
    state = λ inputs.
        ap (λ (l : LogState). state_held (tables_of system) d (source_of system d) (length l.entries) l.mark (register_at state.registers.items)) logged
        ∙ ap (λ l. state_held (tables_of system) d (source_of system d) 0 Going (register_at l)) registers
        ∙ same_state (source_of system d) (source_of system d)
        (variables_held (tables_of system) d (source_of system d) zeros) (λ x. pos 0) (values_held (tables_of system) d (source_of system d) zeros) (λ s. pos 0) (last_held (tables_of system) d (source_of system d) zeros) (λ c. pos 0) 0 Going
        refl (variables_zero (tables_of system) d (source_of system d) zeros all_zero) (values_zero (tables_of system) d (source_of system d) zeros all_zero) (last_zero (tables_of system) d (source_of system d) zeros all_zero);
  }
    where
      zeros : ℕ → ℤ
      zeros = register_at (replicate (length (domain_registers (tables_of system) d (whole source))) (pos 0))

      all_zero : (k : ℕ) → zeros k ≡ pos 0
      all_zero = zero_at (length (domain_registers (tables_of system) d (whole source)))

  pub compiled : Keeps system d program state scratch log × IsCompiled system d (view_of system d state log)
  compiled = (compiled_keeps, is_compiled)
