-- A whole turn: a tick and its joins.
use Rattle.std.proofs.Common.{◌≡◌, ◌≢◌, ℕ, zero, suc, ◌-◌, ◌*◌, ◌<◌, ◌≤◌, List, [], ◌∷◌, ◌++◌, length, get_or, Option, Some, None, refl, sym, ap, ◌∙◌, subst, inl, inr, ◌⊎◌, arith}
use Rattle.std.specs.Prelude.{max, slice_index_or}
use Rattle.std.proofs.lemmas.Bool.{cases_eq, cases_lt}
use Rattle.std.proofs.lemmas.List.{length-append, append_assoc}
use Rattle.std.proofs.Math.Seq.{get_or-append_seam}
use Rattle.kernel_rules.specs.definitions.LegalTick.{Inputs}
use Rattle.kernel_terms.specs.declared.system.System.{System}
use Rattle.kernel_terms.specs.Systems.{tables_of}
use Rattle.kernel_terms.specs.TableEntries.{channel_at}
use Rattle.kernel_rules.specs.definitions.Signals.{put_at}
use Rattle.kernel_rules.specs.definitions.LegalTick.{IsLegalTick}
use Rattle.tick_log.specs.declared.history.JoinRow.{JoinRow}
use Rattle.tick_log.specs.definitions.Runs.{Entry, RunState, log_of, tick_of, tick_count}
use Rattle.cell_core.specs.declared.moves.Joined.{Joined}
use Rattle.cell_core.specs.declared.cell.Standing.TheVariants.{Empty}
use Rattle.cell_core.specs.definitions.Cells.{CellState, other, standing_at}
use Rattle.cell_core.specs.CellEnds.{standing_offer}
use Rattle.domain_core.specs.definitions.step.EndCalls.{end_at}
use Rattle.domain_core.specs.step.Answers.{raised, raised_by}
use Rattle.domain_core.specs.definitions.step.Domains.{DomainView, ends_in, tick_count_of, state_of}
use Rattle.domain_core.specs.definitions.step.Steps.{StandsAs}
use Rattle.domain_core.specs.step.Answers.{with_answers, newest_of}
use Rattle.domain_core.specs.definitions.runs.Systems.{SystemState, MakesTick, TickStep, IsSystem, domain_count, channel_count, setup_of}
use Rattle.domain_core.proofs.lemmas.runs.StatesBetweenTicks.{put_here, put_apart, put_cases}
use Rattle.domain_core.proofs.lemmas.step.StampAnswers.{all_raised}
use Rattle.gals_core.specs.Channels.{ChannelsState, cell_in, history_in, ticks_in, link_at}
use Rattle.gals_core.specs.RunsOverCells.{domain_at, IsInCells, own_side, pending, found_state, found_stamp, RunBeginsWith, StandsFor}
use Rattle.domain_core.proofs.lemmas.step.OwnEnds.{own_end}
use Rattle.gals_core.proofs.OwnDomains.{domain_is}
use Rattle.gals_core.proofs.EndAnswerLemmas.{answers_same, raised_same, answers_ticks}
use Rattle.gals_core.proofs.CallEffects.{Recalled}
use Rattle.gals_core.proofs.ChannelOffers.{other_of, pending_at}
use Rattle.gals_core.proofs.FacingEnds.{two_sides, found_same, in_cells_same}
use Rattle.gals_core.proofs.ChannelJoins.{TurnOf, Stage, begins_same}
use Rattle.gals_core.proofs.TurnChannels.{all_stages}
use Rattle.gals_core.proofs.OwnStep.{OwnStep, after_step, ends_at}

-- what a domain finds is no less than its last stamp
raised_least : (a : List (Option Joined)) (n x : ℕ) → x ≤ raised a n x
raised_least a zero x = omega arith
raised_least a (suc n) x = one (get_or a n None) (raised a n x) (raised_least a n x)
  where
    one : (o : Option Joined) (y : ℕ) → x ≤ y → x ≤ raised_by o y
    one None y h = h
    one (Some j) y h = omega (arith, h)

pub last_low : (system : System) (d : ℕ) (cell : ℕ → CellState) (v : DomainView) → v.stamp ≤ found_stamp system d cell v
last_low system d cell v =
    let least = raised_least (pending cell (ends_at system d)) (length (ends_at system d)) (max v.stamp (newest_of (tick_count_of v) v.joins)) in
    omega (arith, least)

-- where one domain has an entry more
begins_tick : (r : RunState) (old new : ℕ → List Entry) (rows same : ℕ → List JoinRow) (d : ℕ) (entry : Entry) → new d ≡ old d ++ entry ∷ [] → ((e : ℕ) → e ≢ d → new e ≡ old e) → ((c : ℕ) → same c ≡ rows c) →
    RunBeginsWith r new same → RunBeginsWith r old rows
begins_tick r old new rows same d entry here there eq b = record {
  more_entries = put_at b.more_entries d (entry ∷ b.more_entries d);
  more_rows = b.more_rows;
  logs = λ e. elim (cases_eq e d) [
    | inl q ↦
        let P : ℕ → Type 0 = λ z. (log_of r z).entries ≡ old z ++ put_at b.more_entries d (entry ∷ b.more_entries d) z in
        subst P (sym q)
        (b.logs d ∙ ap (λ z. z ++ b.more_entries d) here ∙ append_assoc (old d) (entry ∷ []) (b.more_entries d)
        ∙ ap (λ z. old d ++ z) (sym (put_here b.more_entries d (entry ∷ b.more_entries d))))
    | inr ne ↦ b.logs e ∙ ap (λ z. z ++ b.more_entries e) (there e ne) ∙ ap (λ z. old e ++ z) (sym (put_apart b.more_entries d (entry ∷ b.more_entries d) e ne))
  ];
  histories = λ c. b.histories c ∙ ap (λ z. z ++ b.more_rows c) (eq c);
}

record NextEntry (r : RunState) (d n : ℕ) (entry : Entry) : Type 0 where
  stands : n < tick_count r d
  is : tick_of r d n ≡ entry

next_entry : (r : RunState) (old new : ℕ → List Entry) (rows : ℕ → List JoinRow) (d n : ℕ) (entry : Entry) → new d ≡ old d ++ entry ∷ [] → RunBeginsWith r new rows → n ≡ length (old d) → NextEntry r d n entry
next_entry r old new rows d n entry here b q =
    let all : (log_of r d).entries ≡ old d ++ entry ∷ b.more_entries d =
    b.logs d ∙ ap (λ z. z ++ b.more_entries d) here ∙ append_assoc (old d) (entry ∷ []) (b.more_entries d) in
    let count = ap length all ∙ length-append (old d) (entry ∷ b.more_entries d) in
    let none : Entry = record { stamp = 0; statuses = [] } in
    record {
      stands = omega (arith, count, q);
      is =
          ap (λ z. slice_index_or (log_of r d).entries z none) q
          ∙ ap (λ z. slice_index_or z (length (old d)) none) all
          ∙ get_or-append_seam (old d) entry (b.more_entries d) none;
    }

-- recalls of one domain leave the sides of the others
recalled_kept : (system : System) (d e : ℕ) (answers : List (Option Joined)) (before middle : ChannelsState) → e ≢ d → Recalled (ends_at system d) answers (length (ends_at system d)) before middle →
    (i : ℕ) → i < length (ends_at system e) →
    standing_at (end_at (ends_at system e) i).side (cell_in middle (end_at (ends_at system e) i).channel) ≡ standing_at (end_at (ends_at system e) i).side (cell_in before (end_at (ends_at system e) i).channel)
recalled_kept system d e answers before middle ne r i less =
    let g = end_at (ends_at system e) i in
    elim (find (length (ends_at system d))) [
      | inl k ↦
          let f = end_at (ends_at system d) k.0 in
          let p = r.passed k.0 k.1 in
          let side_is : g.side ≡ other f.side = elim (two_sides f.side g.side) [
            | inl q ↦
                absurd (ne (sym (domain_is (tables_of system) e g (own_end (tables_of system) e i less)) ∙ ap (λ z. domain_at (tables_of system) z g.channel) q ∙ ap (domain_at (tables_of system) f.side) (sym k.2)
                ∙ domain_is (tables_of system) d f (own_end (tables_of system) d k.0 k.1)))
            | inr q ↦ q
          ] in
          ap (λ z. standing_at z (cell_in middle g.channel)) side_is
          ∙ ap (λ z. standing_at (other f.side) (cell_in middle z)) (sym k.2)
          ∙ ap (standing_at (other f.side)) p.cell
          ∙ other_of f.side Empty (standing_at (other f.side) (cell_in before f.channel))
          ∙ ap (λ z. standing_at (other f.side) (cell_in before z)) k.2
          ∙ ap (λ z. standing_at z (cell_in before g.channel)) (sym side_is)
      | inr none ↦ ap (standing_at g.side) (r.others g.channel (λ k l q. none k l (sym q)))
    ]
  where
    find : (n : ℕ) → ((k : ℕ) × (k < n) × ((end_at (ends_at system d) k).channel ≡ (end_at (ends_at system e) i).channel)) ⊎
        ((k : ℕ) → k < n → (end_at (ends_at system d) k).channel ≢ (end_at (ends_at system e) i).channel)
    find zero = inr (λ k l. absurd (omega (arith, l)))
    find (suc n) = elim (cases_eq (end_at (ends_at system d) n).channel (end_at (ends_at system e) i).channel) [
      | inl q ↦ inl (n, omega arith, q)
      | inr far ↦ elim (find n) [
        | inl k ↦ inl (k.0, omega (arith, k.1), k.2)
        | inr none ↦ inr (λ k l. elim (cases_eq k n) [ inl q ↦ λ z. far (ap (λ y. (end_at (ends_at system d) y).channel) (sym q) ∙ z) | inr m ↦ none k (omega (arith, l, m)) ])
      ]
    ]

-- the cells and histories with which a domain begins its turn
pub record Begins (system : System) (inputs : Inputs) (d : ℕ) (view : ℕ → DomainView) (b : ChannelsState) : Type 0 where
  pub within : d < domain_count (setup_of system inputs)
  pub sys : IsSystem (setup_of system inputs)
  pub links : (c : ℕ) → c < channel_count (setup_of system inputs) → ((link_at b.links c).sender ≡ (channel_at (tables_of system) c).sender) × ((link_at b.links c).receiver ≡ (channel_at (tables_of system) c).receiver)
  pub my_ticks : ticks_in b d ≡ suc (tick_count_of (view d))
  pub their_ticks : (e : ℕ) → e < domain_count (setup_of system inputs) → e ≢ d → ticks_in b e ≡ tick_count_of (view e)

module _ (system : System) (inputs : Inputs) (turns rest : List ℕ) (d : ℕ) (view new : ℕ → DomainView) (before after : ChannelsState) (begins : Begins system inputs d view before)
    (w : StandsFor system inputs turns (d ∷ rest) view (cell_in before) (λ c. (history_in before c).rows)) (x : OwnStep system inputs d (view d) (new d) before after) (others : (e : ℕ) → e ≢ d → new e ≡ view e) where
  abbrev top : ℕ
  top = 2 * length turns - 2 * length (d ∷ rest)

  abbrev entries : ℕ → List Entry
  entries e = (new e).log.entries

  answers_pending : (k : ℕ) → k < length (ends_at system d) → get_or x.answers k None ≡ get_or (pending (cell_in before) (ends_at system d)) k None
  answers_pending k l = (x.recalled.passed k l).answered ∙ sym (pending_at (cell_in before) (ends_at system d) k l)

  from_state : w.s.domain d ≡ with_answers (ends_at system d) x.answers (length (ends_at system d)) (state_of (view d))
  from_state = w.state d begins.within ∙ sym (answers_same (ends_at system d) x.answers (pending (cell_in before) (ends_at system d)) (length (ends_at system d)) (state_of (view d)) answers_pending)

  pub stamp_is : x.stamp ≡ suc (w.since d)
  stamp_is =
      let E = ends_at system d in
      let lists = (w.views d begins.within).lists in
      x.next
      ∙ ap suc (all_raised (tick_count_of (view d)) (view d).stamp x.answers (length E) (view d).joins (omega (arith, lists))
      ∙ raised_same x.answers (pending (cell_in before) E) (length E) (max (view d).stamp (newest_of (tick_count_of (view d)) (view d).joins)) answers_pending
      ∙ sym (w.since_is d begins.within))

  kept : (e : ℕ) → e ≢ d → (i : ℕ) → i < length (ends_at system e) →
      standing_at (end_at (ends_at system e) i).side (cell_in x.middle (end_at (ends_at system e) i).channel) ≡ standing_at (end_at (ends_at system e) i).side (cell_in before (end_at (ends_at system e) i).channel)
  kept e ne = recalled_kept system d e x.answers before x.middle ne x.recalled

  turn : TurnOf system inputs d new x.middle after x.ticked x.asks x.replies x.stamp
  turn = record {
    within = begins.within;
    sys = begins.sys;
    links = λ c l. (ap (λ z. (link_at z c).sender) x.recalled.links ∙ (begins.links c l).0, ap (λ z. (link_at z c).receiver) x.recalled.links ∙ (begins.links c l).1);
    my_ticks =
        ap (λ z. get_or z d 0) x.recalled.ticks ∙ begins.my_ticks
        ∙ ap suc (sym (answers_ticks (ends_at system d) x.answers (length (ends_at system d)) (state_of (view d))))
        ∙ sym (ap (λ z. z.ticks) x.legal.next);
    their_ticks = λ e l ne. ap (λ z. get_or z e 0) x.recalled.ticks ∙ begins.their_ticks e l ne ∙ ap tick_count_of (sym (others e ne));
    offered = x.offered;
    asked = x.asked;
  }

  abbrev ticked : SystemState
  ticked = record { domain = put_at w.s.domain d x.ticked; joins = w.s.joins }

  first : Stage system inputs turns rest d new x.middle after x.ticked x.replies x.stamp entries top 0 0 (channel_count (setup_of system inputs))
  first =
      let p = setup_of system inputs in
      let g = w.goes_on in
      let old_entries : ℕ → List Entry = λ e. (view e).log.entries in
      let old_rows : ℕ → List JoinRow = λ c. (history_in before c).rows in
      let mid_rows : ℕ → List JoinRow = λ c. (history_in x.middle c).rows in
      let entry : Entry = record { stamp = x.stamp; statuses = x.statuses } in
      let step : TickStep p w.s d x.statuses ticked = record {
        after = x.ticked;
        legal = subst (λ z. IsLegalTick (tables_of system) inputs d z x.statuses x.ticked) (sym from_state) x.legal;
        next = refl;
      } in
      let here : length (d ∷ rest) ≡ suc (length rest) = refl in
      let low : (e : ℕ) → e < domain_count p → w.since e ≤ top = λ e l. omega (arith, w.low e l) in
      record {
        s = ticked;
        t = put_at g.t d (suc (g.t d));
        j = g.j;
        last = put_at w.last d (suc (w.since d));
        since = put_at w.since d (suc (w.since d));
        cell = cell_in x.middle;
        rows = mid_rows;
        sum = omega arith;
        ends_within = omega arith;
        before = λ k l. absurd (omega (arith, l));
        beyond = λ k l lk. omega arith;
        cells_done = λ k l. absurd (omega (arith, l));
        cells_left = λ k l. refl;
        rows_done = λ k l. absurd (omega (arith, l));
        rows_left = λ k l. refl;
        others = λ e l ne.
            subst (IsInCells system e (cell_in x.middle)) (sym (others e ne))
            (in_cells_same system e (cell_in before) (cell_in x.middle) (view e) (λ i li. ap (standing_offer (end_at (ends_at system e) i).side) (kept e ne i li)) (w.views e l));
        mine = put_here w.s.domain d x.ticked;
        theirs = λ e l ne.
            put_apart w.s.domain d x.ticked e ne ∙ w.state e l ∙ sym (found_same system e (cell_in before) (cell_in x.middle) (view e) (kept e ne)).0
            ∙ ap (found_state system e (cell_in x.middle)) (sym (others e ne));
        t_is = λ e. elim (cases_eq e d) [
          | inl q ↦
              ap (put_at g.t d (suc (g.t d))) q ∙ put_here g.t d (suc (g.t d))
              ∙ sym (ap (λ z. length (entries z)) q ∙ ap length x.entries ∙ length-append (old_entries d) (entry ∷ []) ∙ omega (arith, g.t_is d))
          | inr ne ↦ put_apart g.t d (suc (g.t d)) e ne ∙ g.t_is e ∙ ap (λ z. length z.log.entries) (sym (others e ne))
        ];
        j_is = λ k. g.j_is k ∙ ap length (sym (x.recalled.rows k));
        last_mine = put_here w.last d (suc (w.since d)) ∙ sym stamp_is;
        last_theirs = λ e l ne. put_apart w.last d (suc (w.since d)) e ne ∙ w.last_is e l ∙ ap (λ z. z.stamp) (sym (others e ne));
        since_mine = put_here w.since d (suc (w.since d)) ∙ sym stamp_is;
        since_theirs = λ e l ne.
            put_apart w.since d (suc (w.since d)) e ne ∙ w.since_is e l ∙ sym (found_same system e (cell_in before) (cell_in x.middle) (view e) (kept e ne)).1
            ∙ ap (found_stamp system e (cell_in x.middle)) (sym (others e ne));
        low_last = λ e l. elim (put_cases w.last d (suc (w.since d)) e) [
          | inl (q, u) ↦ let v = low d begins.within in omega (arith, u, v)
          | inr (ne, u) ↦ let v = low e l in omega (arith, u, v, w.last_is e l, w.since_is e l, last_low system e (cell_in before) (view e))
        ];
        low_since = λ e l. elim (put_cases w.since d (suc (w.since d)) e) [
          | inl (q, u) ↦ let v = low d begins.within in omega (arith, u, v)
          | inr (ne, u) ↦ let v = low e l in omega (arith, u, v)
        ];
        completes = λ r joins mid moves end bw jit turned tells stamps marks.
            let back = begins_tick r old_entries entries old_rows mid_rows d entry x.entries (λ e ne. ap (λ z. z.log.entries) (others e ne)) x.recalled.rows bw in
            let next = next_entry r old_entries entries mid_rows d (g.t d) entry x.entries bw (g.t_is d) in
            g.completes r (MakesTick d x.statuses ∷ (joins ++ moves)) end back (inr (x.statuses, ticked, mid, joins, moves, (begins.within, step), jit, turned, refl))
            (next.stands, ap (λ z. z.statuses) next.is, tells) (ap (λ z. z.stamp) next.is ∙ stamp_is, stamps) marks;
      }

  pub whole_turn : ((n : ℕ) → n < length (ends_in (new d)) → StandsAs (new d) n (own_side (cell_in after) (end_at (ends_in (new d)) n))) →
      StandsFor system inputs turns rest new (cell_in after) (λ c. (history_in after c).rows)
  whole_turn leaves =
      let p = setup_of system inputs in
      let E = ends_at system d in
      let y = all_stages system inputs turns rest d new x.middle after x.ticked x.asks x.replies x.stamp entries top turn (channel_count p) 0 0 first in
      let n = y.0 in
      let z = y.1 in
      let a = after_step system inputs d (view d) (new d) before after (w.views d begins.within) x leaves in
      let over : n ≡ length E = elim (cases_lt n (length E)) [
        | inl l ↦ absurd (omega (arith, z.beyond n (omega arith) l, (own_end (tables_of system) d n l).channel))
        | inr l ↦ omega (arith, l, z.ends_within)
      ] in
      let cells_same : (e : ℕ) → (i : ℕ) → i < length (ends_at system e) → z.cell (end_at (ends_at system e) i).channel ≡ cell_in after (end_at (ends_at system e) i).channel = λ e i l.
      z.cells_done (end_at (ends_at system e) i).channel (omega (arith, (own_end (tables_of system) e i l).channel)) in
      let rows_same : (c : ℕ) → (history_in after c).rows ≡ z.rows c = λ c. elim (cases_lt c (channel_count p)) [
        | inl l ↦ sym (z.rows_done c (omega (arith, l)))
        | inr l ↦
            x.offered.other_rows c (λ k lk q. omega (arith, q, l, (own_end (tables_of system) d k lk).channel))
            ∙ sym (z.rows_left c (omega (arith, l)))
      ] in
      let kept2 : (e : ℕ) → (i : ℕ) → i < length (ends_at system e) →
      standing_at (end_at (ends_at system e) i).side (cell_in after (end_at (ends_at system e) i).channel) ≡ standing_at (end_at (ends_at system e) i).side (z.cell (end_at (ends_at system e) i).channel) = λ e i l.
      ap (standing_at (end_at (ends_at system e) i).side) (sym (cells_same e i l)) in
      let here : length (d ∷ rest) ≡ suc (length rest) = refl in
      record {
        s = z.s;
        last = z.last;
        since = z.since;
        goes_on = record {
          t = z.t;
          j = z.j;
          t_is = z.t_is;
          j_is = λ c. z.j_is c ∙ ap length (sym (rows_same c));
          completes = λ r moves end b turned tells stamps marks. z.completes r [] z.s moves end (begins_same r entries z.rows (λ c. (history_in after c).rows) rows_same b) (refl, refl) turned tells stamps marks;
        };
        views = λ e l. elim (cases_eq e d) [
          | inl q ↦ subst (λ k. IsInCells system k (cell_in after) (new k)) (sym q) a.in_cells
          | inr ne ↦ in_cells_same system e z.cell (cell_in after) (new e) (λ i li. ap (standing_offer (end_at (ends_at system e) i).side) (kept2 e i li)) (z.others e l ne)
        ];
        state = λ e l. elim (cases_eq e d) [
          | inl q ↦
              let there : z.s.domain d ≡ found_state system d (cell_in after) (new d) = z.mine ∙ ap (λ k. with_answers E x.replies k x.ticked) over ∙ a.state in
              subst (λ k. z.s.domain k ≡ found_state system k (cell_in after) (new k)) (sym q) there
          | inr ne ↦ z.theirs e l ne ∙ sym (found_same system e z.cell (cell_in after) (new e) (kept2 e)).0
        ];
        last_is = λ e l. elim (cases_eq e d) [
          | inl q ↦ let there : z.last d ≡ (new d).stamp = z.last_mine ∙ sym x.last_stamp in subst (λ k. z.last k ≡ (new k).stamp) (sym q) there
          | inr ne ↦ z.last_theirs e l ne
        ];
        since_is = λ e l. elim (cases_eq e d) [
          | inl q ↦
              let there : z.since d ≡ found_stamp system d (cell_in after) (new d) = z.since_mine ∙ ap (λ k. raised x.replies k x.stamp) over ∙ a.since in
              subst (λ k. z.since k ≡ found_stamp system k (cell_in after) (new k)) (sym q) there
          | inr ne ↦ z.since_theirs e l ne ∙ sym (found_same system e z.cell (cell_in after) (new e) (kept2 e)).1
        ];
        low = λ e l. omega (arith, z.low_since e l, w.low d begins.within);
      }
