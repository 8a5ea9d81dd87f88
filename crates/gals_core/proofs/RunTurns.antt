-- The turns of a run, from the first to the last.
use Rattle.std.proofs.Common.{◌≡◌, ◌≢◌, ℕ, suc, ◌*◌, ◌^◌, ◌<◌, ◌≤◌, ℤ, true, false, List, [], ◌∷◌, ◌++◌, length, get_or, None, refl, sym, ap, ◌∙◌, subst, inl, inr, arith}
use Rattle.std.specs.Prelude.{max, IsNone}
use Rattle.std.proofs.Math.Path.{fun_ext}
use Rattle.std.proofs.lemmas.List.{append-nil}
use Rattle.std.proofs.lemmas.Bool.{true≢false}
use Rattle.kernel_terms.specs.declared.system.System.{System}
use Rattle.kernel_terms.specs.Systems.{tables_of}
use Rattle.tick_log.specs.declared.history.JoinRow.{JoinRow}
use Rattle.tick_log.specs.definitions.Runs.{RunState, log_of, history_of}
use Rattle.cell_core.specs.declared.moves.Side.{Side}
use Rattle.cell_core.specs.declared.moves.Side.TheVariants.{Sender, Receiver}
use Rattle.cell_core.specs.definitions.Cells.{CellState, standing_at, empty_cell, recall_reply}
use Rattle.cell_core.specs.CellEnds.{standing_offer}
use Rattle.cell_core.specs.definitions.Ends.{Through}
use Rattle.domain_core.specs.declared.step.ends_of.EndOf.{EndOf}
use Rattle.domain_core.specs.declared.step.ends_of.EndJoin.{EndJoin}
use Rattle.domain_core.specs.declared.step.outcome.Stepped.{Stepped}
use Rattle.domain_core.specs.definitions.step.EndCalls.{end_at, recalls, offers}
use Rattle.domain_core.specs.definitions.step.Domains.{DomainView, ends_of, ends_in, tick_count_of, state_of, joins_at}
use Rattle.domain_core.specs.definitions.step.Steps.{Waits, WaitsAs, StandsAs, IsStep, add_joins}
use Rattle.domain_core.specs.step.Answers.{next_stamp, newest, newest_of}
use Rattle.domain_core.specs.definitions.runs.Systems.{IsSystem, IsFresh, start, start_of, domain_count, setup_of}
use Rattle.domain_core.specs.definitions.runs.LegalRuns.{Fits}
use Rattle.domain_core.specs.definitions.runs.Scheduled.{IsScheduledRun}
use Rattle.domain_core.proofs.lemmas.step.StateAnswers.{with_none}
use Rattle.domain_core.proofs.lemmas.step.StampAnswers.{stamp_is_next}
use Rattle.domain_core.proofs.lemmas.runs.ScheduledTurns.{scheduled_by_step}
use Rattle.kernel_terms.specs.Marks.{is_over}
use Rattle.kernel_rules.specs.definitions.LegalTick.{Inputs}
use Rattle.domain_core.proofs.lemmas.step.StampAnswers.{all_raised}
use Rattle.gals_core.specs.Channels.{ChannelsState, Moves, cell_in, history_in}
use Rattle.gals_core.specs.RunsOverCells.{own_side, pending, RunBeginsWith, StandsFor, IsNew}
use Rattle.domain_core.proofs.lemmas.step.StateJoins.{ends_apart}
use Rattle.gals_core.proofs.EndAnswerLemmas.{raised_same, answers_mark}
use Rattle.gals_core.proofs.CallEffects.{split, all_recalled}
use Rattle.gals_core.proofs.ChannelOffers.{pending_at, stands_so}
use Rattle.gals_core.proofs.OwnStep.{OwnStep, own_step, ends_at, at_own, raised_none}
use Rattle.gals_core.proofs.TurnLemmas.{Begins, whole_turn}

-- the turn of a domain that has ended
pub skip_turn : (system : System) (inputs : Inputs) (turns rest : List ℕ) (d : ℕ) (view : ℕ → DomainView) (cell : ℕ → CellState) (rows : ℕ → List JoinRow) → d < domain_count (setup_of system inputs) → is_over (view d).log.mark ≡ true →
    StandsFor system inputs turns (d ∷ rest) view cell rows → StandsFor system inputs turns rest view cell rows
skip_turn system inputs turns rest d view cell rows within over w =
    let ended : is_over (w.s.domain d).mark ≡ true =
    ap (λ z. is_over z.mark) (w.state d within) ∙ ap is_over (answers_mark (ends_at system d) (pending cell (ends_at system d)) (length (ends_at system d)) (state_of (view d))) ∙ over in
    let here : length (d ∷ rest) ≡ suc (length rest) = refl in
    record {
      s = w.s;
      last = w.last;
      since = w.since;
      goes_on = record {
        t = w.goes_on.t;
        j = w.goes_on.j;
        t_is = w.goes_on.t_is;
        j_is = w.goes_on.j_is;
        completes = λ r moves end b turned tells stamps marks. w.goes_on.completes r moves end b (inl (ended, turned)) tells stamps marks;
      };
      views = w.views;
      state = w.state;
      last_is = w.last_is;
      since_is = w.since_is;
      low = λ e l. omega (arith, w.low e l);
    }

-- the run after the last turn
pub at_end : (system : System) (inputs : Inputs) (turns : List ℕ) (view : ℕ → DomainView) (cell : ℕ → CellState) (rows : ℕ → List JoinRow) (r : RunState) → (w : StandsFor system inputs turns [] view cell rows) → Fits (setup_of system inputs) r →
    ((d : ℕ) → (log_of r d).entries ≡ (view d).log.entries) → ((d : ℕ) → (log_of r d).mark ≡ (view d).log.mark) → ((c : ℕ) → history_of r c ≡ rows c) →
    IsScheduledRun (setup_of system inputs) r turns w.s
at_end system inputs turns view cell rows r w fits entries marks histories =
    let begins : RunBeginsWith r (λ d. (view d).log.entries) rows = record {
      more_entries = λ d. [];
      more_rows = λ c. [];
      logs = λ d. entries d ∙ sym (append-nil (view d).log.entries);
      histories = λ c. histories c ∙ sym (append-nil (rows c));
    } in
    w.goes_on.completes r [] w.s begins (refl, refl) ((λ d. w.goes_on.t_is d ∙ ap length (sym (entries d))), (λ c. w.goes_on.j_is c ∙ ap length (sym (histories c)))) tt
    (record {
      fits = fits;
      marks = λ d l. marks d ∙ sym (ap (λ z. z.mark) (w.state d l) ∙ answers_mark (ends_at system d) (pending cell (ends_at system d)) (length (ends_at system d)) (state_of (view d)));
    })

-- no step of a turn finds its stamp past the limit
module _ (system : System) (inputs : Inputs) (turns rest : List ℕ) (d : ℕ) (view new : ℕ → DomainView) (before after : ChannelsState) (begins : Begins system inputs d view before) (own : before.ends ≡ ends_at system d)
    (w : StandsFor system inputs turns (d ∷ rest) view (cell_in before) (λ c. (history_in before c).rows)) (few : 2 * length turns ≤ 2 ^ 62) (result : Stepped) (i : IsStep Moves inputs before after (view d) (new d) result) where
  stamp_low : i.stamp < 2 ^ 62
  stamp_low =
      let E = ends_at system d in
      let h = w.views d begins.within in
      let to : (Q : System → ℕ → Type 0) → Q (view d).system (view d).domain → Q system d = at_own (view d) system d h.of_system h.of_domain in
      let alone = to (λ y x. (n : ℕ) → n < length (ends_of (tables_of y) x) → get_or (view d).standing n false ≡ false → get_or i.answers n None ≡ None) i.alone in
      let through = to (λ y x.
      Through Moves before
      (recalls (ends_of (tables_of y) x) (view d).standing i.answers (length (ends_of (tables_of y) x)) ++ offers (ends_of (tables_of y) x) i.asks i.stamp i.replies (length (ends_of (tables_of y) x))) after) i.through in
      let x = split Moves before (recalls E (view d).standing i.answers (length E)) (offers E i.asks i.stamp i.replies (length E)) after through in
      let r = all_recalled E (view d).standing i.answers (length E) before x.middle (ends_apart (tables_of system) d) (omega arith) own (stands_so system d (cell_in before) (view d) h) alone x.before in
      let next = to (λ y x. i.stamp ≡ next_stamp (view d).stamp (tick_count_of (view d)) (add_joins (tick_count_of (view d)) i.answers (length (ends_of (tables_of y) x)) (view d).joins)) (stamp_is_next (view d).stamp (tick_count_of (view d)) (add_joins (tick_count_of (view d)) i.answers (length (ends_in (view d))) (view d).joins) i.stamp i.next) in
      let is : i.stamp ≡ suc (w.since d) =
      next
      ∙ ap suc (all_raised (tick_count_of (view d)) (view d).stamp i.answers (length E) (view d).joins (omega (arith, h.lists))
      ∙ raised_same i.answers (pending (cell_in before) E) (length E) (max (view d).stamp (newest_of (tick_count_of (view d)) (view d).joins)) (λ k l. (r.passed k l).answered ∙ sym (pending_at (cell_in before) E k l))
      ∙ sym (w.since_is d begins.within)) in
      let here : length (d ∷ rest) ≡ suc (length rest) = refl in
      omega (arith, is, w.low d begins.within, few)

  pub made : OwnStep system inputs d (view d) (new d) before after
  made = elim i.goes [
    | inl k ↦ own_step system inputs d (view d) (new d) before after result (w.views d begins.within) own i k
    | inr k ↦ let v = k.0.limit in absurd (omega (arith, v, stamp_low))
  ]

  pub turn_done : ((e : ℕ) → e ≢ d → new e ≡ view e) → ((n : ℕ) → n < length (ends_in (new d)) → StandsAs (new d) n (own_side (cell_in after) (end_at (ends_in (new d)) n))) →
      StandsFor system inputs turns rest new (cell_in after) (λ c. (history_in after c).rows)
  turn_done others leaves = whole_turn system inputs turns rest d view new before after begins w made others leaves

-- a domain before its first tick
new_newest : (t : ℕ) (joins : List (List EndJoin)) → ((k : ℕ) → joins_at joins k ≡ []) → newest_of t joins ≡ 0
new_newest t [] h = refl
new_newest t (js ∷ jss) h = let a = ap (newest t) (h 0) in let i = new_newest t jss (λ k. h (suc k)) in omega (arith, a, i)

no_pending : (ends : List EndOf) (k : ℕ) → k < length ends → get_or (pending (λ c. empty_cell) ends) k None ≡ None
no_pending ends k l = pending_at (λ c. empty_cell) ends k l ∙ by_side (end_at ends k).side
  where
    by_side : (a : Side) → recall_reply (standing_at a empty_cell) ≡ None
    by_side Sender = refl
    by_side Receiver = refl

no_offer : (a : Side) → IsNone (standing_offer a (standing_at a empty_cell))
no_offer Sender = refl
no_offer Receiver = refl

pub new_state : (system : System) (inputs : Inputs) (d : ℕ) (v : DomainView) → IsNew system d v → state_of v ≡ start_of (setup_of system inputs) d
new_state system inputs d v h = h.state inputs

not_waiting : (system : System) (inputs : Inputs) (d : ℕ) (e : EndOf) (value : ℤ) → IsFresh (setup_of system inputs) → Waits e value (start_of (setup_of system inputs) d).statement → ⊥
not_waiting system inputs d e value fresh w = by_side e.side w
  where
    by_side : (a : Side) → WaitsAs a e.channel value (start_of (setup_of system inputs) d).statement → ⊥
    by_side Sender h = fresh.sends d e.channel value h
    by_side Receiver h = fresh.receives d e.channel h.0

at_empty_cells : (system : System) (inputs : Inputs) (turns : List ℕ) (view : ℕ → DomainView) → IsSystem (setup_of system inputs) → IsFresh (setup_of system inputs) → ((d : ℕ) → d < domain_count (setup_of system inputs) → IsNew system d (view d)) → ((d : ℕ) → (view d).log.entries ≡ []) →
    StandsFor system inputs turns turns view (λ c. empty_cell) (λ c. [])
at_empty_cells system inputs turns view sys fresh new entries =
    record {
      s = start (setup_of system inputs);
      last = λ d. 0;
      since = λ d. 0;
      goes_on = record {
        t = λ d. 0;
        j = λ c. 0;
        t_is = λ d. sym (ap length (entries d));
        j_is = λ c. refl;
        completes = λ r moves end b turned tells stamps marks. scheduled_by_step (setup_of system inputs) r turns moves end sys fresh marks.fits turned tells stamps marks.marks;
      };
      views = λ d l.
          let h = new d l in
          record {
            of_system = h.of_system;
            of_domain = h.of_domain;
            runs = h.going;
            lists = h.lists;
            later = λ t m. new_newest t (view d).joins h.joins;
            stands = λ n m q. absurd (true≢false (sym q ∙ h.standing n));
            free = λ n m q. no_offer (end_at (ends_at system d) n).side;
            idle = λ n m q value w. not_waiting system inputs d (end_at (ends_at system d) n) value fresh (subst (λ z. Waits (end_at (ends_at system d) n) value z.statement) (new_state system inputs d (view d) h) w);
          };
      state = λ d l.
          let E = ends_at system d in
          sym (with_none E (pending (λ c. empty_cell) E) (length E) (state_of (view d)) (no_pending E) ∙ new_state system inputs d (view d) (new d l));
      last_is = λ d l. sym (new d l).stamp;
      since_is = λ d l.
          let E = ends_at system d in
          let a = raised_none (pending (λ c. empty_cell) E) (length E) (max (view d).stamp (newest_of (tick_count_of (view d)) (view d).joins)) (no_pending E) in
          let b = new_newest (tick_count_of (view d)) (view d).joins (new d l).joins in
          let c = (new d l).stamp in
          omega (arith, a, b, c);
      low = λ d l. omega arith;
    }

-- the domains before their first ticks, and cells at which no side stands
pub at_start : (system : System) (inputs : Inputs) (turns : List ℕ) (view : ℕ → DomainView) (cell : ℕ → CellState) (rows : ℕ → List JoinRow) → IsSystem (setup_of system inputs) → IsFresh (setup_of system inputs) →
    ((d : ℕ) → d < domain_count (setup_of system inputs) → IsNew system d (view d)) → ((d : ℕ) → (view d).log.entries ≡ []) → ((c : ℕ) → cell c ≡ empty_cell) → ((c : ℕ) → rows c ≡ []) →
    StandsFor system inputs turns turns view cell rows
at_start system inputs turns view cell rows sys fresh new entries cells none =
    subst (λ z. StandsFor system inputs turns turns view z rows) (sym (fun_ext cells)) (subst (StandsFor system inputs turns turns view (λ c. empty_cell)) (sym (fun_ext none)) (at_empty_cells system inputs turns view sys fresh new entries))
