-- One turn of the loop over the turns.
use Rattle.std.proofs.Common.{◌≡◌, ◌≢◌, ℕ, suc, ◌+◌, ◌*◌, ◌^◌, ◌<◌, ◌≤◌, true, false, List, [], ◌∷◌, length, get_or, None, refl, sym, ap, ◌∙◌, subst, inl, inr, arith}
use Rattle.std.specs.Prelude.{◌==◌, IsSomeAnd, IsNone, All}
use Rattle.std.proofs.Math.ListN.{set}
use Rattle.std.proofs.lemmas.Bool.{cases_eq, eq-eqb, ne_eqb, cond-true, cond-false}
use Rattle.std.proofs.lemmas.List.{length-append, length-set, get_or-set_same, get_or-set_other}
use Rattle.kernel_terms.specs.declared.system.System.{System}
use Rattle.kernel_terms.specs.Systems.{tables_of}
use Rattle.kernel_terms.specs.TableEntries.{channel_at, interface_of}
use Rattle.kernel_terms.specs.Marks.{Mark, Going, Ended, is_over}
use Rattle.kernel_rules.specs.definitions.LegalTick.{Inputs}
use Rattle.tick_log.specs.definitions.RunText.{interface_signals}
use Rattle.tick_log.specs.definitions.Fits.{IsEntry, most_ticks}
use Rattle.cell_core.specs.declared.moves.Side.{Side}
use Rattle.cell_core.specs.declared.moves.Side.TheVariants.{Sender, Receiver}
use Rattle.domain_core.specs.declared.step.ends_of.EndOf.{EndOf}
use Rattle.domain_core.specs.declared.step.outcome.Stepped.{Stepped}
use Rattle.domain_core.specs.definitions.step.EndCalls.{end_at}
use Rattle.domain_core.specs.step.Answers.{raised}
use Rattle.domain_core.specs.definitions.step.Domains.{DomainView, ends_of, ends_in, tables_in, tick_count_of, state_of}
use Rattle.domain_core.specs.definitions.step.Steps.{StandsAs, IsWaitingOffer, FitsEnd, LeavesEnd, IsStep}
use Rattle.domain_core.specs.definitions.runs.Systems.{domain_count, channel_count, setup_of}
use Rattle.domain_core.specs.definitions.runs.Scheduled.{turns_of}
use Rattle.gals_core.specs.Channels.{ChannelsState, Moves, cell_in, history_in, ticks_in, link_at, end_view}
use Rattle.gals_core.specs.RunsOverCells.{IsInCells, own_side, StandsFor}
use Rattle.gals_core.specs.BetweenTurns.{IsBetweenTurns, FitSoFar}
use Rattle.gals_core.specs.definitions.OrderPlans.{view_at, no_domain}
use Rattle.domain_core.proofs.lemmas.step.OwnEnds.{IsOwn, own_end, has_side}
use Rattle.gals_core.proofs.CallEffects.{new_rows}
use Rattle.gals_core.proofs.OwnStep.{OwnStep, at_own, ends_at, after_step}
use Rattle.gals_core.proofs.TurnLemmas.{Begins}
use Rattle.gals_core.proofs.RunTurns.{skip_turn, made, turn_done}
use Rattle.gals_core.proofs.HistoryRooms.{same_memory, few_rows}
use Rattle.gals_core.proofs.TurnEntryLemmas.{entries_fit, rows_fit}

module _ (system : System) (inputs : Inputs) (turns rest : List ℕ) (d : ℕ) (views : List DomainView) (b : ChannelsState) (k : IsBetweenTurns system inputs turns (d ∷ rest) views b) where
  abbrev v : DomainView
  v = view_at system views d

  abbrev E : List EndOf
  E = ends_at system d

  pub within : d < domain_count (setup_of system inputs)
  within = k.turns_within 0 (omega arith)

  pub in_views : d < length views
  in_views = omega (arith, within, k.domains)

  pub in_ticks : d < length b.ticks
  in_ticks = omega (arith, within, k.tick_counts)

  mine_less : turns_of d (d ∷ rest) ≡ suc (turns_of d rest)
  mine_less = cond-true (d == d) (suc (turns_of d rest)) (turns_of d rest) (eq-eqb d d refl)

  theirs_same : (e : ℕ) → e ≢ d → turns_of e (d ∷ rest) ≡ turns_of e rest
  theirs_same e ne = cond-false (d == e) (suc (turns_of e rest)) (turns_of e rest) (ne_eqb d e (λ q. ne (sym q)))

  never_more : (e : ℕ) → turns_of e rest ≤ turns_of e (d ∷ rest)
  never_more e = elim (cases_eq e d) [ inl q ↦ subst (λ z. turns_of z rest ≤ turns_of z (d ∷ rest)) (sym q) (omega (arith, mine_less)) | inr ne ↦ omega (arith, theirs_same e ne) ]

  pub spared : 1 ≤ v.spare
  spared = omega (arith, k.spare d within, mine_less)

  pub countable : get_or b.ticks d 0 + 1 < 2 ^ 32
  countable = omega (arith, k.ticks d within, k.limit d within, mine_less)

  view_in : IsInCells system d (cell_in b) v
  view_in = k.stands.views d within

  pub goes : is_over v.log.mark ≡ false → v.log.mark ≡ Going
  goes h = by_mark v.log.mark h
    where
      by_mark : (m : Mark) → is_over m ≡ false → m ≡ Going
      by_mark Going h = refl
      by_mark Ended h = absurd cc

  pub runs : v.stopped ≡ false
  runs = view_in.runs

  ends_are : ends_in v ≡ E
  ends_are = at_own v system d view_in.of_system view_in.of_domain (λ y x. ends_in v ≡ ends_of (tables_of y) x) refl

  pub skipped : is_over v.log.mark ≡ true → IsBetweenTurns system inputs turns rest views b
  skipped h =
      record {
        is_system = k.is_system;
        few = k.few;
        domains = k.domains;
        turns_within = λ i l. k.turns_within (suc i) (omega (arith, l));
        spare = λ e l. omega (arith, k.spare e l, never_more e);
        limit = λ e l. omega (arith, k.limit e l, never_more e);
        link_count = k.link_count;
        links = k.links;
        kinds = k.kinds;
        tick_counts = k.tick_counts;
        ticks = k.ticks;
        lists = k.lists;
        rooms = λ c l. omega (arith, k.rooms c l, never_more (channel_at (tables_of system) c).sender, never_more (channel_at (tables_of system) c).receiver);
        stands = skip_turn system inputs turns rest d (view_at system views) (cell_in b) (λ c. (history_in b c).rows) within h k.stands;
        fits = k.fits;
      }

  -- the channels at the domain's turn
  abbrev pub begun : ChannelsState
  begun = record b { ticks = set b.ticks d (get_or b.ticks d 0 + 1); ends = get_or b.lists d [] }

  own_ends : begun.ends ≡ E
  own_ends = k.lists d within

  pub counted : length begun.ends ≡ length (ends_in v)
  counted = ap length (own_ends ∙ sym ends_are)

  pub all_fit : (n : ℕ) → n < length (ends_in v) → FitsEnd v n (end_view begun n)
  all_fit n less =
      let l : n < length E = subst (λ z. n < length z) ends_are less in
      let x = own_end (tables_of system) d n l in
      let ch = (end_at E n).channel in
      record {
        side = ap (λ z. (end_at z n).side) (own_ends ∙ sym ends_are);
        kind =
            ap (λ z. (link_at b.links (end_at z n).channel).kind) own_ends
            ∙ k.kinds ch x.channel
            ∙ ap (λ z. (channel_at (tables_of z) ch).kind) (sym view_in.of_system)
            ∙ ap (λ z. (channel_at (tables_in v) (end_at z n).channel).kind) (sym ends_are);
        room = subst (λ z. 2 ≤ (history_in b (end_at z n).channel).room) (sym own_ends) (omega (arith, k.rooms ch x.channel));
        stands = record {
          stands = λ q.
              subst (λ z. IsSomeAnd (own_side (cell_in b) (end_at z n)) (IsWaitingOffer (end_at (ends_in v) n) v.stamp (state_of v).statement)) (sym own_ends)
              (subst (λ z. IsSomeAnd (own_side (cell_in b) (end_at E n)) (IsWaitingOffer (end_at z n) v.stamp (state_of v).statement)) (sym ends_are) (view_in.stands n l q));
          free = λ q. subst (λ z. IsNone (own_side (cell_in b) (end_at z n))) (sym own_ends) (view_in.free n l q);
        };
      }

  begins : Begins system inputs d (view_at system views) begun
  begins = record {
    within = within;
    sys = k.is_system;
    links = k.links;
    my_ticks = get_or-set_same b.ticks d (get_or b.ticks d 0 + 1) 0 in_ticks ∙ omega (arith, k.ticks d within);
    their_ticks = λ e l ne. get_or-set_other b.ticks d e (get_or b.ticks d 0 + 1) 0 ne ∙ k.ticks e l;
  }

  few_ticks : (e : ℕ) → e < domain_count (setup_of system inputs) → ticks_in begun e ≤ most_ticks
  few_ticks e l = elim (cases_eq e d) [
    | inl q ↦ subst (λ z. ticks_in begun z ≤ most_ticks) (sym q) (omega (arith, begins.my_ticks, k.limit d within, mine_less))
    | inr ne ↦ omega (arith, begins.their_ticks e l ne, k.limit e l)
  ]

  few_turns : 2 * length turns ≤ 2 ^ 62
  few_turns = omega (arith, k.few)

  module _ (after : ChannelsState) (new : DomainView) (result : Stepped) (i : IsStep Moves inputs begun after v new result) (leaves : (n : ℕ) → n < length (ends_in v) → LeavesEnd new n (end_view begun n) (end_view after n)) where
    abbrev views' : List DomainView
    views' = set views d new

    here : view_at system views' d ≡ new
    here = get_or-set_same views d new (no_domain system) in_views

    there : (e : ℕ) → e ≢ d → view_at system views' e ≡ view_at system views e
    there e ne = get_or-set_other views d e new (no_domain system) ne

    step : IsStep Moves inputs begun after v (view_at system views' d) result
    step = subst (λ z. IsStep Moves inputs begun after v z result) (sym here) i

    x : OwnStep system inputs d v (view_at system views' d) begun after
    x = made system inputs turns rest d (view_at system views) (view_at system views') begun after begins own_ends k.stands few_turns result step

    new_ends : ends_in (view_at system views' d) ≡ E
    new_ends = at_own (view_at system views' d) system d x.of_system x.of_domain (λ y z. ends_in (view_at system views' d) ≡ ends_of (tables_of y) z) refl

    after_ends : after.ends ≡ E
    after_ends = x.offered.own ∙ x.recalled.own ∙ own_ends

    left : (n : ℕ) → n < length (ends_in (view_at system views' d)) → StandsAs (view_at system views' d) n (own_side (cell_in after) (end_at (ends_in (view_at system views' d)) n))
    left n less =
        let l : n < length (ends_in v) = subst (λ z. n < length z) (new_ends ∙ sym ends_are) less in
        subst (λ z. StandsAs (view_at system views' d) n (own_side (cell_in after) (end_at z n))) (after_ends ∙ sym new_ends)
        (subst (λ z. StandsAs z n (own_side (cell_in after) (end_at after.ends n))) (sym here) (leaves n l).stands)

    grown : (c : ℕ) → c < channel_count (setup_of system inputs) → (side : Side) → IsOwn d side (channel_at (tables_of system) c) → length (history_in after c).rows ≤ length (history_in b c).rows + 1
    grown c l side own =
        let f = has_side (tables_of system) d c side l own in
        let at : (end_at E f.place).channel ≡ c = ap (λ z. z.channel) f.is in
        let p = x.offered.passed f.place f.within in
        let reply = get_or x.replies f.place None in
        subst (λ z. length (history_in after z).rows ≤ length (history_in b z).rows + 1) at
        (omega (
          arith,
          ap length p.rows,
          length-append (history_in x.middle (end_at E f.place).channel).rows (new_rows x.middle (end_at E f.place).channel reply),
          few_rows x.middle (end_at E f.place).channel reply,
          ap length (x.recalled.rows (end_at E f.place).channel),
        ))

    not_grown : (c : ℕ) → ((side : Side) → IsOwn d side (channel_at (tables_of system) c) → ⊥) → length (history_in after c).rows ≤ length (history_in b c).rows
    not_grown c none =
        let far : (n : ℕ) → n < length E → c ≢ (end_at E n).channel = λ n l q. let y = own_end (tables_of system) d n l in none (end_at E n).side (subst (λ z. IsOwn d (end_at E n).side (channel_at (tables_of system) z)) (sym q) y.own) in
        omega (arith, ap length (x.offered.other_rows c far), ap length (x.recalled.rows c))

    stand : StandsFor system inputs turns rest (view_at system views') (cell_in after) (λ c. (history_in after c).rows)
    stand = turn_done system inputs turns rest d (view_at system views) (view_at system views') begun after begins own_ends k.stands few_turns result step there left

    low : raised x.replies (length E) x.stamp < 2 ^ 62
    low =
        let since = (after_step system inputs d v (view_at system views' d) begun after view_in x left).since in
        omega (arith, since, stand.since_is d within, stand.low d within, k.few)

    count : tick_count_of (view_at system views' d) ≡ tick_count_of v + 1
    count = ap length x.entries ∙ length-append v.log.entries (record { stamp = x.stamp; statuses = x.statuses } ∷ [])

    fit : FitSoFar system inputs views' after
    fit = record {
      signals = λ e l. elim (cases_eq e d) [
        | inl q ↦ subst (λ z. (view_at system views' z).log.signals ≡ length (interface_of (tables_of system) z)) (sym q) (x.signals ∙ k.fits.signals d within)
        | inr ne ↦ ap (λ z. z.log.signals) (there e ne) ∙ k.fits.signals e l
      ];
      entries = λ e l. elim (cases_eq e d) [
        | inl q ↦
            subst (λ z. All (IsEntry (interface_signals (tables_of system) z)) (view_at system views' z).log.entries) (sym q)
            (entries_fit system inputs d v (view_at system views' d) begun after x (k.fits.entries d within))
        | inr ne ↦ subst (λ z. All (IsEntry (interface_signals (tables_of system) e)) z.log.entries) (sym (there e ne)) (k.fits.entries e l)
      ];
      marks = λ e l over. elim (cases_eq e d) [
        | inl q ↦ omega (arith, ap (λ z. tick_count_of (view_at system views' z)) q, count)
        | inr ne ↦ omega (arith, ap tick_count_of (there e ne), k.fits.marks e l (ap (λ z. is_over z.log.mark) (sym (there e ne)) ∙ over))
      ];
      rows = λ c l. rows_fit system inputs d v (view_at system views' d) begun after x k.is_system k.links few_ticks low c l (k.fits.rows c l);
    }

    pub stepped : IsBetweenTurns system inputs turns rest views' after
    stepped =
        let m = same_memory begun _ after i.through in
        let spent = i.spare in
        record {
          is_system = k.is_system;
          few = k.few;
          domains = length-set views d new ∙ k.domains;
          turns_within = λ j l. k.turns_within (suc j) (omega (arith, l));
          spare = λ e l. elim (cases_eq e d) [
            | inl q ↦ subst (λ z. turns_of z rest ≤ (view_at system views' z).spare) (sym q) (omega (arith, ap (λ z. z.spare) here, spent, k.spare d within, mine_less))
            | inr ne ↦ omega (arith, ap (λ z. z.spare) (there e ne), k.spare e l, theirs_same e ne)
          ];
          limit = λ e l. elim (cases_eq e d) [
            | inl q ↦ subst (λ z. tick_count_of (view_at system views' z) + turns_of z rest ≤ most_ticks) (sym q) (omega (arith, count, k.limit d within, mine_less))
            | inr ne ↦ omega (arith, ap tick_count_of (there e ne), k.limit e l, theirs_same e ne)
          ];
          link_count = ap length m.links ∙ k.link_count;
          links = λ c l. (ap (λ z. (link_at z c).sender) m.links ∙ (k.links c l).0, ap (λ z. (link_at z c).receiver) m.links ∙ (k.links c l).1);
          kinds = λ c l. ap (λ z. (link_at z c).kind) m.links ∙ k.kinds c l;
          tick_counts = ap length m.ticks ∙ length-set b.ticks d (get_or b.ticks d 0 + 1) ∙ k.tick_counts;
          ticks = λ e l. ap (λ z. get_or z e 0) m.ticks ∙ elim (cases_eq e d) [
            | inl q ↦
                subst (λ z. get_or (set b.ticks d (get_or b.ticks d 0 + 1)) z 0 ≡ tick_count_of (view_at system views' z)) (sym q)
                (get_or-set_same b.ticks d (get_or b.ticks d 0 + 1) 0 in_ticks ∙ omega (arith, k.ticks d within, count))
            | inr ne ↦ get_or-set_other b.ticks d e (get_or b.ticks d 0 + 1) 0 ne ∙ k.ticks e l ∙ ap tick_count_of (sym (there e ne))
          ];
          lists = λ e l. ap (λ z. get_or z e []) m.lists ∙ k.lists e l;
          rooms = λ c l.
              let s = (channel_at (tables_of system) c).sender in
              let r = (channel_at (tables_of system) c).receiver in
              let memory = m.memory c in
              let old = k.rooms c l in
              elim (cases_eq s d) [
                | inl q ↦ omega (arith, memory, old, grown c l Sender q, ap (λ z. turns_of z (d ∷ rest)) q, ap (λ z. turns_of z rest) q, mine_less, never_more r)
                | inr ns ↦ elim (cases_eq r d) [
                  | inl q ↦ omega (arith, memory, old, grown c l Receiver (ns, q), ap (λ z. turns_of z (d ∷ rest)) q, ap (λ z. turns_of z rest) q, mine_less, never_more s)
                  | inr nr ↦ omega (arith, memory, old, not_grown c (neither c ns nr), theirs_same s ns, theirs_same r nr)
                ]
              ];
          stands = stand;
          fits = fit;
        }
      where
        neither : (c : ℕ) → (channel_at (tables_of system) c).sender ≢ d → (channel_at (tables_of system) c).receiver ≢ d → (side : Side) → IsOwn d side (channel_at (tables_of system) c) → ⊥
        neither c ns nr Sender own = ns own
        neither c ns nr Receiver own = nr own.1
