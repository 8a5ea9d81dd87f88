-- A step of a domain, from what its phases do.
use Rattle.std.proofs.Common.{◌≡◌, ℕ, zero, suc, ◌+◌, ◌-◌, ◌<◌, ◌≤◌, ◌^◌, ℤ, pos, Bool, true, false, cond, List, [], ◌∷◌, ◌++◌, length, get_or, Option, Some, None, Vec, refl, sym, ap, ◌∙◌, subst, inl, inr, arith, add-one}
use Rattle.std.specs.Prelude.{IfSome, IsSomeAnd, replicate, max, vec_len, vec_capacity}
use Rattle.std.specs.Global.{Global}
use Rattle.std.proofs.lemmas.Bool.{true≢false}
use Rattle.std.proofs.lemmas.Option.{none-some}
use Rattle.std.proofs.lemmas.List.{length-append, get_or-map, length-map}
use Rattle.kernel_terms.specs.declared.system.System.{System}
use Rattle.kernel_terms.specs.Systems.{tables_of}
use Rattle.kernel_terms.specs.declared.tables.Tables.{Tables}
use Rattle.kernel_terms.specs.TableEntries.{channel_at, interface_of, is_interface_of, numbers_where}
use Rattle.kernel_terms.specs.Statements as rules
use Rattle.kernel_terms.specs.Marks.{Going, Ended, is_over}
use Rattle.kernel_rules.specs.definitions.Registers.{residual, registers as all_registers, domain_registers, FitRegisters, variables_held, values_held, last_held}
use Rattle.kernel_rules.specs.definitions.LegalTick.{DomainState, Inputs, IsLegalTick}
use Rattle.tick_log.specs.definitions.Runs.{statuses_of}
use Rattle.tick_log.specs.definitions.Containers.{LogState}
use Rattle.tick_log.specs.definitions.RunText.{interface_signals}
use Rattle.tick_log.specs.definitions.Fits.{AreStatuses}
use Rattle.cell_core.specs.declared.moves.Joined.{Joined}
use Rattle.cell_core.specs.declared.moves.CellMove.{CellMove}
use Rattle.cell_core.specs.definitions.Ends.{EndView, Through, ValueFits}
use Rattle.cell_core.proofs.CallLemmas.{Through-append}
use Rattle.domain_core.specs.declared.step.ends_of.EndOf.{EndOf}
use Rattle.domain_core.specs.declared.step.ends_of.EndJoin.{EndJoin}
use Rattle.domain_core.specs.declared.step.outcome.Stepped.TheVariants as stepped
use Rattle.domain_core.specs.declared.step.parts.Program.{Program}
use Rattle.domain_core.specs.declared.step.parts.State.{State}
use Rattle.domain_core.specs.declared.step.parts.Scratch.{Scratch}
use Rattle.domain_core.specs.equations.BuiltForms.{Plain, whole}
use Rattle.domain_core.specs.equations.BuiltRegisters.{HoldsLiteral}
use Rattle.domain_core.specs.equations.Codes.{TellsTick}
use Rattle.domain_core.specs.equations.Places.{plain_places}
use Rattle.domain_core.specs.definitions.step.EndCalls.{end_at, recalls, offers, stands_after, CanOffer, RecallsAll, OffersAll}
use Rattle.domain_core.specs.definitions.step.EndRegisters.{end_places, last_places, registers_joined}
use Rattle.domain_core.specs.definitions.runs.Stamps.{IsTickStamp}
use Rattle.domain_core.specs.step.EndPlaces.{ask_of, PlacesFit, LastFits}
use Rattle.domain_core.specs.step.Answers.{with_answers, newest_of, next_stamp, raised}
use Rattle.domain_core.specs.definitions.step.Domains.{DomainView, ends_of, register_at, joins_at, statement_held, state_held, state_of}
use Rattle.domain_core.specs.definitions.runs.Systems.{source_of}
use Rattle.domain_core.specs.definitions.step.Steps.{IsAsk, Waits, add_joins, FitsEnd, LeavesEnd, IsWaitingOffer, FitAnswers, IsStep, IsStampSince, StandFor, state_with, registers_with, stepped_to}
use Rattle.domain_core.specs.step.JoinLists.{joins_in, HasRoom}
use Rattle.domain_core.specs.step.StepParts.{pending, PartsHold, Applies, FitsAfter, MakesCodeTick}
use Rattle.domain_core.specs.step.DomainKeeps.{HasScratch, Keeps}
use Rattle.domain_core.proofs.lemmas.step.StateJoins.{ends_apart}
use Rattle.domain_core.proofs.lemmas.step.StateAnswers.{same_state, length_joins}
use Rattle.domain_core.proofs.lemmas.step.StampAnswers.{one_if, all_raised, all_other, all_counted, next_is_stamp}
use Rattle.domain_core.proofs.lemmas.step.AnswersFound.{answers_found}
use Rattle.domain_core.proofs.lemmas.step.SourceEnds.{channels_apart}
use Rattle.domain_core.proofs.lemmas.step.LastValues.{variables_same, last_same}
use Rattle.domain_core.proofs.lemmas.equations.BuiltRules.{registers-whole}
use Rattle.domain_core.specs.step.StatementEnds.{HaveEnds}
use Rattle.domain_core.proofs.lemmas.step.BuiltJoins.{places_same}
use Rattle.domain_core.proofs.lemmas.step.TickStates.{after_tick, tick_is_legal, statuses_fit, values_none}
use Rattle.domain_core.proofs.lemmas.step.PhaseStates.{answers_state, replies_state, answers_fit, ask_fits, still_waits, asked_after, recalled_fits, offered_fits, offered_stands}

-- a domain as contracts see it
abbrev pub view_of : System → ℕ → State → LogState → DomainView
view_of system d state log = record {
  system = system;
  domain = d;
  registers = state.registers.items;
  standing = state.standing.items;
  log = log;
  joins = joins_in state.joins.items;
  spare = log.room;
  stopped = state.stopped;
  stamp = state.stamp;
}

-- the interface signals of a domain are signals
pub numbers_below : {X : Type 0} (is : X → Bool) (n : ℕ) (xs : List X) (k e : ℕ) → k < length (numbers_where is n xs) → get_or (numbers_where is n xs) k e < n + length xs
numbers_below is n [] k e less = absurd (omega (arith, less))
numbers_below is n (x ∷ xs) k e less = here (is x) k (λ i l. numbers_below is (suc n) xs i e l) less
  where
    here : (t : Bool) (k : ℕ) → ((i : ℕ) → i < length (numbers_where is (suc n) xs) → get_or (numbers_where is (suc n) xs) i e < suc n + length xs) →
        k < length (cond t (n ∷ numbers_where is (suc n) xs) (numbers_where is (suc n) xs)) → get_or (cond t (n ∷ numbers_where is (suc n) xs) (numbers_where is (suc n) xs)) k e < n + suc (length xs)
    here true zero rest less = omega arith
    here true (suc k) rest less = omega (arith, rest k (omega (arith, less)))
    here false k rest less = omega (arith, rest k less)

pub interface_within : (tables : Tables) (d k e : ℕ) → k < length (interface_of tables d) → get_or (interface_of tables d) k e < length tables.signals
interface_within tables d k e less = omega (arith, numbers_below (is_interface_of d) 0 tables.signals k e less)

vec_length : (v : Vec EndJoin Global) → vec_len v ≡ length v.items
vec_length v = v.ok.0

pending_covers : (standing : Bool) (answer : Option Joined) → (standing ≡ false → answer ≡ None) → one_if answer ≤ pending standing
pending_covers true None alone = omega arith
pending_covers true (Some j) alone = omega arith
pending_covers false answer alone = subst (λ a. one_if a ≤ 0) (sym (alone refl)) (omega arith)

module _ (program : Program) (s0 s1 : State) (answers : List (Option Joined)) (t room : ℕ) (holds : PartsHold program s0 t room) (applies : Applies program s0 s1 answers t)
    (alone : (k : ℕ) → k < length program.ends.items → get_or s0.standing.items k false ≡ false → get_or answers k None ≡ None) where
  -- after the recalls no end has more joins than ticks were made
  pub counts_after : (k : ℕ) → k < length program.ends.items → length (joins_at (joins_in s1.joins.items) k) ≤ t
  counts_after k less =
      let same : length (joins_in s0.joins.items) ≡ length program.ends.items = length-map s0.joins.items (λ (v : Vec EndJoin Global). v.items) ∙ holds.lists in
      let count = all_counted t answers (length program.ends.items) k (joins_in s0.joins.items) less (omega (arith, same)) in
      let covers = pending_covers (get_or s0.standing.items k false) (get_or answers k None) (alone k less) in
      let now = ap (λ js. length (joins_at js k)) applies.joins in
      omega (arith, now, count, covers, holds.counts k less)

  pub room_after : 1 ≤ room → (other : List (Option Joined)) → HasRoom s1.joins.items other 0
  room_after some other = record {
    room = λ k v low less is.
        let within : k < length program.ends.items = omega (arith, less, applies.lists, holds.lists) in
        let count : length (joins_at (joins_in s1.joins.items) k) ≤ t = counts_after k within in
        let here : joins_at (joins_in s1.joins.items) k ≡ (get_or s1.joins.items k v).items = get_or-map (λ (u : Vec EndJoin Global). u.items) s1.joins.items k v [] less in
        let old : k < length s0.joins.items = omega (arith, less, applies.lists) in
        omega (arith, vec_length (get_or s1.joins.items k v), ap length here, count, holds.memory k v within, applies.memory k v old, some);
  }

none_at : (standing : Bool) (answer : Option Joined) → (standing ≡ true → ⊥) → (standing ≡ false → answer ≡ None) → answer ≡ None
none_at true answer never alone = absurd (never refl)
none_at false answer never alone = alone refl

module _ {S : Type 0} (moved : S → ℕ → CellMove → Option Joined → S → Type 0) (count : S → ℕ) (view : S → ℕ → EndView)
    (system : System) (d : ℕ) (program : Program) (s0 s1 : State) (scratch : Scratch) (log : LogState) (answers : List (Option Joined)) (first middle : S)
    (keeps : Keeps system d program s0 scratch log) (going : log.mark ≡ Going) (running : s0.stopped ≡ false)
    (fits_ends : (n : ℕ) → n < length (ends_of (tables_of system) d) → FitsEnd (view_of system d s0 log) n (view first n))
    (recalled : RecallsAll moved count view program.ends.items s0.standing.items answers (length program.ends.items) first middle)
    (applies : Applies program s0 s1 answers (length log.entries)) where
  abbrev tables : Tables
  tables = tables_of system

  abbrev ends : List EndOf
  ends = ends_of (tables_of system) d

  abbrev source : Plain
  source = keeps.source

  abbrev t : ℕ
  t = length log.entries

  abbrev r0 : ℕ → ℤ
  r0 = register_at s0.registers.items

  abbrev r1 : ℕ → ℤ
  r1 = register_at s1.registers.items

  abbrev joins0 : List (List EndJoin)
  joins0 = joins_in s0.joins.items

  abbrev joins1 : List (List EndJoin)
  joins1 = joins_in s1.joins.items

  abbrev v0 : DomainView
  v0 = view_of system d s0 log

  same_ends : program.ends.items ≡ ends
  same_ends = keeps.is_program.ends

  same_count : length program.ends.items ≡ length ends
  same_count = ap length same_ends

  recalls_here : RecallsAll moved count view ends s0.standing.items answers (length ends) first middle
  recalls_here = subst (λ l. RecallsAll moved count view l s0.standing.items answers (length l) first middle) same_ends recalled

  has : HaveEnds (ends_of (tables_of system) d) (whole source)
  has = keeps.is_program.has_ends

  pub alone_here : (k : ℕ) → k < length ends → get_or s0.standing.items k false ≡ false → get_or answers k None ≡ None
  alone_here k less = (recalls_here.passed k less).alone

  alone_program : (k : ℕ) → k < length program.ends.items → get_or s0.standing.items k false ≡ false → get_or answers k None ≡ None
  alone_program k less = alone_here k (omega (arith, less, same_count))

  pub fit_here : FitAnswers v0 s0.stamp answers
  fit_here = λ n less.
      recalled_fits (get_or s0.standing.items n false) (get_or answers n None) (view first n) (view middle n) (end_at ends n) s0.stamp (channel_at tables (end_at ends n).channel).kind (state_of v0).statement
      (fits_ends n less).kind (fits_ends n less).stands.stands (recalls_here.passed n less)

  none_first : t ≡ 0 → (k : ℕ) → k < length ends → get_or answers k None ≡ None
  none_first is_first k less =
      none_at (get_or s0.standing.items k false) (get_or answers k None)
      (λ is. let some = keeps.is_state.stands k (omega (arith, less, same_count)) is in omega (arith, some, is_first)) (alone_here k less)

  list_count : length joins0 ≡ length ends
  list_count = length-map s0.joins.items (λ (v : Vec EndJoin Global). v.items) ∙ keeps.parts.lists ∙ same_count

  pub joins_here : joins1 ≡ add_joins t answers (length ends) joins0
  joins_here = applies.joins ∙ ap (λ n. add_joins t answers n joins0) same_count

  list_count1 : length joins1 ≡ length ends
  list_count1 = ap length joins_here ∙ length_joins t answers (length ends) joins0 ∙ list_count

  -- the places and registers of the program are those of the source
  registers_are : (rs : List (Option Joined)) (r : ℕ → ℤ) →
      registers_joined program.codes.places.items program.last.items program.ends.items rs (length program.ends.items) r
      ≡ registers_joined (plain_places ends source 0) (last_places tables d (whole source)) ends rs (length ends) r
  registers_are rs r =
      ap (λ l. registers_joined l program.last.items program.ends.items rs (length program.ends.items) r) keeps.is_program.places
      ∙ ap (λ l. registers_joined (plain_places ends source 0) l program.ends.items rs (length program.ends.items) r) keeps.is_program.last
      ∙ ap (λ l. registers_joined (plain_places ends source 0) (last_places tables d (whole source)) l rs (length l) r) same_ends

  registers_are_with : (rs : List (Option Joined)) (registers : List ℤ) →
      registers_joined (plain_places ends source 0) (last_places tables d (whole source)) ends rs (length ends) (register_at registers) ≡ registers_with v0 rs registers
  registers_are_with rs registers =
      ap (λ l. registers_joined l (last_places tables d (whole source)) ends rs (length ends) (register_at registers)) (sym (places_same tables ends source 0))
      ∙ ap (λ p. registers_joined (end_places tables ends p 0) (last_places tables d p) ends rs (length ends) (register_at registers)) (sym keeps.is_program.statement)

  registers_here : r1 ≡ registers_joined (plain_places ends source 0) (last_places tables d (whole source)) ends answers (length ends) r0
  registers_here = applies.registers ∙ registers_are answers r0

  fits0 : FitsAfter tables source t r0
  fits0 = keeps.is_state.fits going

  pub fits1 : FitsAfter tables source t r1
  fits1 = subst (FitsAfter tables source t) (sym registers_here) (answers_fit tables d source (channels_apart system) has answers t r0 fits0)

  state_is : state_of v0 ≡ state_held tables d (whole source) t Going r0
  state_is = ap (λ p. state_held tables d p t log.mark r0) keeps.is_program.statement ∙ ap (λ m. state_held tables d (whole source) t m r0) going

  pub state_here : state_held tables d (whole source) t Going r1 ≡ with_answers ends answers (length ends) (state_of v0)
  state_here =
      ap (state_held tables d (whole source) t Going) registers_here
      ∙ answers_state tables d source (channels_apart system) has answers t r0 fits0 none_first
      ∙ ap (with_answers ends answers (length ends)) (sym state_is)

  found_here : state_held tables d (whole source) t Going r1 ≡ state_with v0 answers (state_of v0)
  found_here = state_here ∙ answers_found tables d (channels_apart system) answers (state_of v0)

  cause_here : s1.cause ≡ max s0.stamp (newest_of t joins1)
  cause_here =
      applies.cause ∙ ap (λ n. raised answers n s0.cause) same_count ∙ ap (raised answers (length ends)) keeps.is_state.cause
      ∙ sym (all_raised t s0.stamp answers (length ends) joins0 (omega (arith, list_count)))
      ∙ ap (λ l. max s0.stamp (newest_of t l)) (sym joins_here)

  next_here : s1.cause + 1 ≡ next_stamp s0.stamp t (add_joins t answers (length ends) joins0)
  next_here = add-one s1.cause ∙ ap suc (cause_here ∙ ap (λ l. max s0.stamp (newest_of t l)) joins_here)

  stamp_here : (stamp : ℕ) → stamp ≡ s1.cause + 1 → IsTickStamp s0.stamp (IsStampSince (add_joins t answers (length ends) joins0) t) stamp
  stamp_here stamp is = subst (IsTickStamp s0.stamp (IsStampSince (add_joins t answers (length ends) joins0) t)) (sym (is ∙ next_here)) (next_is_stamp s0.stamp t (add_joins t answers (length ends) joins0))

  pub later_here : (u : ℕ) → t < u → newest_of u joins1 ≡ 0
  later_here u low =
      ap (newest_of u) joins_here ∙ all_other t u answers (length ends) joins0 (omega (arith, list_count)) (λ e. omega (arith, low, e)) ∙ keeps.is_state.later u low

  pub counts_here : (k : ℕ) → k < length program.ends.items → length (joins_at joins1 k) ≤ t
  counts_here = counts_after program s0 s1 answers t log.room keeps.parts applies alone_program

  pub room_here : 1 ≤ log.room → (other : List (Option Joined)) → HasRoom s1.joins.items other 0
  room_here = room_after program s0 s1 answers t log.room keeps.parts applies alone_program

  memory_here : (k : ℕ) (v : Vec EndJoin Global) → k < length program.ends.items → t + log.room ≤ vec_capacity (get_or s1.joins.items k v)
  memory_here k v less =
      let old : k < length s0.joins.items = omega (arith, less, keeps.parts.lists) in
      omega (arith, keeps.parts.memory k v less, applies.memory k v old)

  places_here : PlacesFit program.codes.places.items (length program.ends.items) (length s1.registers.items)
  places_here = subst (PlacesFit program.codes.places.items (length program.ends.items)) (sym applies.register_count) keeps.parts.places

  last_here : LastFits program.last.items program.ends.items (length s1.registers.items)
  last_here = subst (LastFits program.last.items program.ends.items) (sym applies.register_count) keeps.parts.last

  module _ (stopped : State) (registers-whole : stopped.registers.items ≡ s1.registers.items) (lists_same : stopped.joins.items ≡ s1.joins.items) (stamp_same : stopped.stamp ≡ s1.stamp)
      (cause_same : stopped.cause ≡ s1.cause) (is_stopped : stopped.stopped ≡ true) (none_stands : (k : ℕ) → get_or stopped.standing.items k false ≡ false)
      (standing_count : length stopped.standing.items ≡ length s0.standing.items) where
    pub stop_keeps : (scratch1 : Scratch) → HasScratch program scratch1 → Keeps system d program stopped scratch1 log
    stop_keeps scratch1 memory = record {
      source = source;
      is_program = keeps.is_program;
      memory = memory;
      is_state = record {
        registers = ap length registers-whole ∙ applies.register_count ∙ keeps.is_state.registers;
        fits = λ going_on. subst (λ l. FitsAfter tables source t (register_at l)) (sym registers-whole) fits1;
        stands = λ k less is. absurd (true≢false (sym is ∙ none_stands k));
        goes = λ k less is. absurd (true≢false (sym is ∙ none_stands k));
        last = omega (arith, stamp_same, applies.stamp, keeps.is_state.last);
        cause = cause_same ∙ cause_here ∙ ap (λ x. max x (newest_of t joins1)) (sym (stamp_same ∙ applies.stamp)) ∙ ap (λ l. max stopped.stamp (newest_of t (joins_in l))) (sym lists_same);
        later = λ u low. ap (λ l. newest_of u (joins_in l)) lists_same ∙ later_here u low;
      };
      parts = record {
        standing = standing_count ∙ keeps.parts.standing;
        lists = ap length lists_same ∙ applies.lists ∙ keeps.parts.lists;
        places = subst (λ l. PlacesFit program.codes.places.items (length program.ends.items) (length l)) (sym registers-whole) places_here;
        last = subst (λ l. LastFits program.last.items program.ends.items (length l)) (sym registers-whole) last_here;
        own = keeps.parts.own;
        counts = λ k less.
            let here = ap (λ l. length (joins_at (joins_in l) k)) lists_same in
            let free = ap pending (none_stands k) in
            omega (arith, here, free, counts_here k less);
        memory = λ k v less. subst (λ l. t + log.room ≤ vec_capacity (get_or l k v)) (sym lists_same) (memory_here k v less);
        limit = omega (arith, cause_same, applies.limit);
      };
      log_signals = keeps.log_signals;
    }

    pub stop_steps : (inputs : Inputs) (stamp : ℕ) → stamp ≡ s1.cause + 1 → 2 ^ 62 ≤ stamp → IsStep moved inputs first middle v0 (view_of system d stopped log) (stepped.StampLimit stamp)
    stop_steps inputs stamp is limit = record {
      answers = answers;
      asks = [];
      replies = [];
      stamp = stamp;
      alone = alone_here;
      fit = fit_here;
      next = stamp_here stamp is;
      goes = inr (
        record {
          limit = limit;
          stepped = refl;
          stopped = is_stopped;
          log = refl;
          last_stamp = stamp_same ∙ applies.stamp;
          state =
              ap (λ l. state_held tables d (source_of system d) t log.mark (register_at l)) registers-whole
              ∙ ap (λ p. state_held tables d p t log.mark r1) keeps.is_program.statement
              ∙ ap (λ m. state_held tables d (whole source) t m r1) going
              ∙ found_here;
          registers = ap register_at registers-whole ∙ registers_here ∙ registers_are_with answers s0.registers.items;
          joins = ap joins_in lists_same ∙ joins_here;
          standing = λ n less. none_stands n;
        },
        refl,
      );
      through = Through-append moved first middle middle (recalls ends s0.standing.items answers (length ends)) (offers ends [] stamp [] (length ends)) recalls_here.through (no_offers (length ends));
      system = refl;
      domain = refl;
      spare = omega arith;
    }
      where
        no_offers : (n : ℕ) → Through moved middle (offers ends [] stamp [] n) middle
        no_offers zero = refl
        no_offers (suc n) = Through-append moved middle middle middle (offers ends [] stamp [] n) [] (no_offers n) refl

  module _ (s2 s3 : State) (log1 : LogState) (present : List Bool) (zeros : List ℤ) (asks : List (Option ℤ)) (replies : List (Option Joined)) (last : S) (ended : Bool) (stamp : ℕ)
      (room : 1 ≤ log.room)
      (made : MakesCodeTick program.codes (length log.entries) (register_at s1.registers.items) (register_at s2.registers.items) present ended)
      (register_count : length s2.registers.items ≡ length s1.registers.items)
      (lists2 : s2.joins.items ≡ s1.joins.items) (stamp2 : s2.stamp ≡ stamp) (cause2 : s2.cause ≡ stamp) (stopped2 : s2.stopped ≡ s1.stopped)
      (standing2 : length s2.standing.items ≡ length program.ends.items)
      (is_stamp : stamp ≡ s1.cause + 1) (low : stamp < 2 ^ 62)
      (all_zero : zeros ≡ replicate program.codes.signals (pos 0))
      (logged : log1 ≡ record { entries = log.entries ++ record { stamp = stamp; statuses = statuses_of present zeros } ∷ []; mark = cond ended Ended Going; signals = log.signals; room = log.room - 1 })
      (asked : (k : ℕ) → k < length program.ends.items → get_or asks k None ≡ cond ended None (ask_of program.codes.places.items k (end_at program.ends.items k).side (register_at s2.registers.items)))
    where
      abbrev r2 : ℕ → ℤ
      r2 = register_at s2.registers.items

      tells : TellsTick tables (whole source) (length (tables_of system).signals) (interface_of tables d) (statement_held tables (whole source) t Going r1) present r2 ended
      tells = made.tells tables source (length (tables_of system).signals) (interface_of tables d) keeps.is_program.are fits1

      literals : HoldsLiteral source 0 r2
      literals = made.literals tables source (length (tables_of system).signals) (interface_of tables d) keeps.is_program.are fits1

      abbrev last1 : ℕ → ℤ
      last1 = last_held tables d (whole source) r1

      abbrev variables1 : ℕ → ℤ
      variables1 = variables_held tables d (whole source) r1

      abbrev after : DomainState
      after = after_tick tables d source (statement_held tables (whole source) t Going r1) present r2 ended keeps.is_program.pure tells last1 variables1 t

      statuses_are : statuses_of present (replicate (length (interface_of tables d)) (pos 0)) ≡ statuses_of present zeros
      statuses_are = ap (λ n. statuses_of present (replicate n (pos 0))) (sym keeps.is_program.are.signal_count) ∙ ap (statuses_of present) (sym all_zero)

      shows : AreStatuses (interface_signals tables d) (statuses_of present zeros)
      shows =
          subst (AreStatuses (interface_signals tables d)) statuses_are
          (statuses_fit tables d present keeps.is_program.pure (ap length tells.shows ∙ length-map (interface_of tables d) (λ s. (tells.env s).present)))

      before_is :
          ◌≡◌ {A = DomainState} (record { statement = statement_held tables (whole source) t Going r1; variables = variables1; values = λ s. pos 0; last = last1; ticks = t; mark = Going }) (state_with v0 answers (state_of v0))
      before_is =
          ap (λ v. record { statement = statement_held tables (whole source) t Going r1; variables = variables1; values = v; last = last1; ticks = t; mark = Going }) (sym (values_none tables d (whole source) r1 keeps.is_program.pure))
          ∙ found_here

      legal : (inputs : Inputs) → IsLegalTick tables inputs d (state_with v0 answers (state_of v0)) (statuses_of present zeros) after
      legal inputs =
          subst (λ x. IsLegalTick tables inputs d x (statuses_of present zeros) after) before_is
          (subst (λ x. IsLegalTick tables inputs d (record { statement = statement_held tables (whole source) t Going r1; variables = variables1; values = λ s. pos 0; last = last1; ticks = t; mark = Going }) x after) statuses_are
          (tick_is_legal tables d source (statement_held tables (whole source) t Going r1) present r2 ended keeps.is_program.pure tells inputs last1 variables1 t (interface_within tables d)))

      fits2 : ended ≡ false → FitsAfter tables source (suc t) r2
      fits2 is = (tells.fits is, literals)

      -- the registers past the statement's stay
      others_here : (k : ℕ) → all_registers tables (whole source) ≤ k → r1 k ≡ r2 k
      others_here k past = sym (made.others k (omega (arith, past, registers-whole tables source, keeps.is_program.are.register_count)))

      after_is : after ≡ state_held tables d (whole source) (suc t) (cond ended Ended Going) r2
      after_is =
          same_state (cond ended rules.Nothing (residual tables (whole source) 0 r2)) (statement_held tables (whole source) (suc t) (cond ended Ended Going) r2)
          variables1 (variables_held tables d (whole source) r2) (λ s. pos 0) (values_held tables d (whole source) r2) last1 (last_held tables d (whole source) r2) (suc t) (cond ended Ended Going)
          (by_end ended) (variables_same tables d (whole source) r1 r2 (λ k past below. others_here k past)) (sym (values_none tables d (whole source) r2 keeps.is_program.pure)) (last_same tables d (whole source) r1 r2 others_here)
        where
          by_end : (b : Bool) → cond b rules.Nothing (residual tables (whole source) 0 r2) ≡ statement_held tables (whole source) (suc t) (cond b Ended Going) r2
          by_end true = refl
          by_end false = refl

      not_over : (b : Bool) → cond b Ended Going ≡ Going → b ≡ false
      not_over true is = absurd (true≢false (ap is_over is))
      not_over false is = refl

      -- right after the tick the registers stand for the state
      stands_for : StandFor v0 s2.registers.items after
      stands_for = record {
        count = register_count ∙ applies.register_count ∙ keeps.is_state.registers ∙ ap (λ p. length (domain_registers tables d p)) (sym keeps.is_program.statement);
        state = ap (λ p. state_held tables d p (suc t) (cond ended Ended Going) r2) keeps.is_program.statement ∙ sym after_is;
        fit = λ is. subst (λ p. FitRegisters tables p 0 r2) (sym keeps.is_program.statement) (tells.fits (not_over ended is));
      }

      asked_here : (k : ℕ) → k < length ends → get_or asks k None ≡ cond ended None (ask_of (plain_places ends source 0) k (end_at ends k).side r2)
      asked_here k less =
          asked k (omega (arith, less, same_count)) ∙ ap (λ l. cond ended None (ask_of l k (end_at program.ends.items k).side r2)) keeps.is_program.places
          ∙ ap (λ l. cond ended None (ask_of (plain_places ends source 0) k (end_at l k).side r2)) same_ends

      asks_here : (k : ℕ) → k < length ends → IsAsk (end_at ends k) after.statement (get_or asks k None)
      asks_here k less = subst (IsAsk (end_at ends k) after.statement) (sym (asked_here k less)) (asked_after tables d source (channels_apart system) has k r2 ended less tells.fits)

      -- the ends may make these offers
      ask_value : (k : ℕ) → k < length ends → (a : Option ℤ) (b : Bool) → ended ≡ b → get_or asks k None ≡ a → IfSome a (ValueFits (end_at ends k).side (channel_at tables (end_at ends k).channel).kind)
      ask_value k less None b is asks_a = tt
      ask_value k less (Some v) true is asks_a =
          absurd (none-some v (sym (ap (λ e. cond e None (ask_of (plain_places ends source 0) k (end_at ends k).side r2)) is) ∙ sym (asked_here k less) ∙ asks_a))
      ask_value k less (Some v) false is asks_a =
          ask_fits tables ends k r2 v source 0 literals keeps.is_program.sends has (sym (ap (λ e. cond e None (ask_of (plain_places ends source 0) k (end_at ends k).side r2)) is) ∙ sym (asked_here k less) ∙ asks_a)

      pub can_offer : (k : ℕ) → k < length program.ends.items → CanOffer (end_at program.ends.items k) (get_or asks k None) (view middle k)
      can_offer k within =
          let less : k < length ends = omega (arith, within, same_count) in
          let seen = fits_ends k less in
          let was = recalls_here.passed k less in
          let side : (view middle k).side ≡ (end_at ends k).side = was.side ∙ seen.side in
          let kind : (view middle k).kind ≡ (channel_at tables (end_at ends k).channel).kind = was.kind ∙ seen.kind in
          record {
            side = side ∙ ap (λ l. (end_at l k).side) (sym same_ends);
            room = omega (arith, was.room, seen.room);
            free = was.free;
            value =
                subst (λ x. IfSome (get_or asks k None) (ValueFits x (view middle k).kind)) (sym side)
                (subst (λ x. IfSome (get_or asks k None) (ValueFits (end_at ends k).side x)) (sym kind) (ask_value k less (get_or asks k None) ended refl refl));
          }

      pub places_ready : PlacesFit program.codes.places.items (length program.ends.items) (length s2.registers.items)
      places_ready = subst (PlacesFit program.codes.places.items (length program.ends.items)) (sym register_count) places_here

      pub last_ready : LastFits program.last.items program.ends.items (length s2.registers.items)
      last_ready = subst (LastFits program.last.items program.ends.items) (sym register_count) last_here

      -- from here on with the offers
      module _ (offered : OffersAll moved count view program.ends.items asks stamp replies (length program.ends.items) middle last)
          (applies2 : Applies program s2 s3 replies (length log1.entries))
          (standing3 : (k : ℕ) → k < length program.ends.items → get_or s3.standing.items k false ≡ stands_after (get_or asks k None) (get_or replies k None))
          (standing_count : length s3.standing.items ≡ length program.ends.items) where
        abbrev v3 : DomainView
        v3 = view_of system d s3 log1

        abbrev joins3 : List (List EndJoin)
        joins3 = joins_in s3.joins.items

        offers_here : OffersAll moved count view ends asks stamp replies (length ends) middle last
        offers_here = subst (λ l. OffersAll moved count view l asks stamp replies (length l) middle last) same_ends offered

        count_made : length log1.entries ≡ suc t
        count_made = ap (λ (l : LogState). length l.entries) logged ∙ length-append log.entries (record { stamp = stamp; statuses = statuses_of present zeros } ∷ []) ∙ add-one t

        joins_made : joins3 ≡ add_joins (suc t) replies (length ends) joins1
        joins_made =
            applies2.joins ∙ ap (λ n. add_joins n replies (length program.ends.items) (joins_in s2.joins.items)) count_made
            ∙ ap (λ n. add_joins (suc t) replies n (joins_in s2.joins.items)) same_count ∙ ap (λ l. add_joins (suc t) replies (length ends) (joins_in l)) lists2

        registers_made : register_at s3.registers.items ≡ registers_joined (plain_places ends source 0) (last_places tables d (whole source)) ends replies (length ends) r2
        registers_made = applies2.registers ∙ registers_are replies r2

        no_asks : ended ≡ true → (k : ℕ) → k < length ends → get_or asks k None ≡ None
        no_asks is k less = asked_here k less ∙ ap (λ e. cond e None (ask_of (plain_places ends source 0) k (end_at ends k).side r2)) is

        no_replies : ended ≡ true → (k : ℕ) → k < length ends → get_or replies k None ≡ None
        no_replies is k less = (offers_here.passed k less).alone (no_asks is k less)

        mark_made : log1.mark ≡ cond ended Ended Going
        mark_made = ap (λ (l : LogState). l.mark) logged

        state_made : state_of v3 ≡ with_answers ends replies (length ends) after
        state_made =
            ap (λ p. state_held tables d p (length log1.entries) log1.mark (register_at s3.registers.items)) keeps.is_program.statement
            ∙ ap (λ n. state_held tables d (whole source) n log1.mark (register_at s3.registers.items)) count_made
            ∙ ap (λ m. state_held tables d (whole source) (suc t) m (register_at s3.registers.items)) mark_made
            ∙ ap (state_held tables d (whole source) (suc t) (cond ended Ended Going)) registers_made
            ∙ replies_state tables d source (channels_apart system) has replies t ended r2 fits2 no_replies
            ∙ ap (with_answers ends replies (length ends)) (sym after_is)

        standing_here : (k : ℕ) → k < length ends → get_or s3.standing.items k false ≡ stands_after (get_or asks k None) (get_or replies k None)
        standing_here k less = standing3 k (omega (arith, less, same_count))

        kind_here : (k : ℕ) → k < length ends → (view middle k).kind ≡ (channel_at tables (end_at ends k).channel).kind
        kind_here k less = (recalls_here.passed k less).kind ∙ (fits_ends k less).kind

        pub tick_steps : (inputs : Inputs) → IsStep moved inputs first last v0 v3 (stepped_to (cond ended Ended Going))
        tick_steps inputs = record {
          answers = answers;
          asks = asks;
          replies = replies;
          stamp = stamp;
          alone = alone_here;
          fit = fit_here;
          next = stamp_here stamp is_stamp;
          goes = inl (record {
            limit = low;
            statuses = statuses_of present zeros;
            after = after;
            legal = legal inputs;
            shows = shows;
            log = logged;
            last_stamp = applies2.stamp ∙ stamp2;
            going = applies2.stopped ∙ stopped2 ∙ applies.stopped ∙ running;
            stepped = refl;
            asked = asks_here;
            replied = λ k less. (offers_here.passed k less).alone;
            fit = λ k less. offered_fits (get_or asks k None) (get_or replies k None) (view middle k) (view last k) stamp (channel_at tables (end_at ends k).channel).kind (kind_here k less) (offers_here.passed k less);
            state = state_made ∙ answers_found tables d (channels_apart system) replies after;
            between = s2.registers.items;
            stand = stands_for;
            register_count = applies2.register_count;
            registers = registers_made ∙ registers_are_with replies s2.registers.items;
            joins = joins_made ∙ ap (add_joins (suc t) replies (length ends)) joins_here;
            standing = standing_here;
          });
          through = Through-append moved first middle last (recalls ends s0.standing.items answers (length ends)) (offers ends asks stamp replies (length ends)) recalls_here.through offers_here.through;
          system = refl;
          domain = refl;
          spare = let l = ap (λ (x : LogState). x.room) logged in omega (arith, l, room);
        }

        pub tick_leaves : (k : ℕ) → k < length ends → LeavesEnd v3 k (view first k) (view last k)
        tick_leaves k less =
            let was = recalls_here.passed k less in
            let made_offer = offers_here.passed k less in
            let seen = fits_ends k less in
            record {
              side = made_offer.side ∙ was.side;
              kind = made_offer.kind ∙ was.kind;
              room = omega (arith, was.room, made_offer.room);
              stands = record {
                stands = λ is.
                    subst (λ n. IsSomeAnd (view last k).offer (IsWaitingOffer (end_at ends k) n (state_of v3).statement)) (sym (applies2.stamp ∙ stamp2))
                    (offered_stands (get_or asks k None) (get_or replies k None) (view middle k) (view last k) (end_at ends k) stamp (state_of v3).statement (was.side ∙ seen.side)
                    (λ w asks_w none. subst (λ x. Waits (end_at ends k) w x.statement) (sym state_made)
                    (still_waits ends replies k (length ends) w after (ends_apart tables d) less (omega arith) none (subst (IsAsk (end_at ends k) after.statement) asks_w (asks_here k less))))
                    made_offer (sym (standing_here k less) ∙ is));
                free = λ is. made_offer.free (sym (standing_here k less) ∙ is);
              };
            }

        one_more : (a : Option ℤ) (r : Option Joined) → one_if r + pending (stands_after a r) ≤ 1
        one_more None None = omega arith
        one_more None (Some j) = omega arith
        one_more (Some v) None = omega arith
        one_more (Some v) (Some j) = omega arith

        not_ended : (k : ℕ) → k < length ends → get_or s3.standing.items k false ≡ true → (b : Bool) → ended ≡ b → log1.mark ≡ Going
        not_ended k less is false going_on = mark_made ∙ ap (λ e. cond e Ended Going) going_on
        not_ended k less is true over =
            absurd (true≢false (sym is ∙ standing_here k less ∙ ap (λ a. stands_after a (get_or replies k None)) (no_asks over k less)))

        pub tick_keeps : (scratch1 : Scratch) → HasScratch program scratch1 → Keeps system d program s3 scratch1 log1
        tick_keeps scratch1 memory = record {
          source = source;
          is_program = keeps.is_program;
          memory = memory;
          is_state = record {
            registers = applies2.register_count ∙ register_count ∙ applies.register_count ∙ keeps.is_state.registers;
            fits = λ going_on.
                subst (λ n. FitsAfter tables source n (register_at s3.registers.items)) (sym count_made)
                (subst (FitsAfter tables source (suc t)) (sym registers_made) (answers_fit tables d source (channels_apart system) has replies (suc t) r2 (fits2 (not_over ended (sym mark_made ∙ going_on)))));
            stands = λ k less is. omega (arith, count_made);
            goes = λ k less is. not_ended k (omega (arith, less, same_count)) is ended refl;
            last = omega (arith, applies2.stamp, stamp2, low);
            cause =
                applies2.cause ∙ ap (λ n. raised replies n s2.cause) same_count ∙ ap (raised replies (length ends)) (cause2 ∙ fresh)
                ∙ sym (all_raised (suc t) stamp replies (length ends) joins1 (omega (arith, list_count1)))
                ∙ ap (λ l. max stamp (newest_of (suc t) l)) (sym joins_made)
                ∙ ap (λ n. max stamp (newest_of n joins3)) (sym count_made)
                ∙ ap (λ n. max n (newest_of (length log1.entries) joins3)) (sym (applies2.stamp ∙ stamp2));
            later = λ u above.
                let past : suc t < u = omega (arith, above, count_made) in
                ap (newest_of u) joins_made ∙ all_other (suc t) u replies (length ends) joins1 (omega (arith, list_count1)) (λ e. omega (arith, past, e)) ∙ later_here u (omega (arith, past));
          };
          parts = record {
            standing = standing_count;
            lists = applies2.lists ∙ ap length lists2 ∙ applies.lists ∙ keeps.parts.lists;
            places = subst (PlacesFit program.codes.places.items (length program.ends.items)) (sym applies2.register_count) places_ready;
            last = subst (LastFits program.last.items program.ends.items) (sym applies2.register_count) last_ready;
            own = keeps.parts.own;
            counts = λ k less.
                let within : k < length ends = omega (arith, less, same_count) in
                let here = ap (λ l. length (joins_at l k)) joins_made in
                let more = all_counted (suc t) replies (length ends) k joins1 within (omega (arith, list_count1)) in
                let stood = ap pending (standing_here k within) in
                omega (arith, here, more, stood, one_more (get_or asks k None) (get_or replies k None), counts_here k less, count_made);
            memory = λ k v less.
                let two : k < length s2.joins.items = omega (arith, less, ap length lists2, applies.lists, keeps.parts.lists) in
                let grown = applies2.memory k v two in
                let was = subst (λ l. t + log.room ≤ vec_capacity (get_or l k v)) (sym lists2) (memory_here k v less) in
                let spent = ap (λ (x : LogState). x.room) logged in
                omega (arith, grown, was, spent, room, count_made);
            limit = applies2.limit;
          };
          log_signals = ap (λ (x : LogState). x.signals) logged ∙ keeps.log_signals;
        }
          where
            fresh : stamp ≡ max stamp (newest_of (suc t) joins1)
            fresh = let z = later_here (suc t) (omega arith) in omega (arith, z)
