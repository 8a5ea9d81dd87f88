-- What a plan keeps is what stands before the first turn.
use Rattle.std.proofs.Common.{◌≡◌, ℕ, zero, suc, ◌+◌, ◌*◌, ◌^◌, ◌<◌, ◌≤◌, false, List, [], ◌∷◌, length, get_or, map, refl, sym, ap, ◌∙◌, subst, inl, inr, arith}
use Rattle.std.specs.Prelude.{◌==◌, All, Vec, vec_capacity}
use Rattle.std.specs.Global.{Global}
use Rattle.std.proofs.lemmas.Bool.{cases_eq, cases_lt, eq-eqb, ne_eqb, cond-true, cond-false, true≢false}
use Rattle.std.proofs.Math.Nat.{le-max_right}
use Rattle.std.proofs.lemmas.List.{length-map, length-replicate, get_or-map, get_or_default, get_or_past}
use Rattle.kernel_terms.specs.declared.system.System.{System}
use Rattle.kernel_terms.specs.declared.tables.ChannelInfo.{ChannelInfo}
use Rattle.kernel_terms.specs.Marks.{is_over}
use Rattle.kernel_terms.specs.Systems.{tables_of, domains_of}
use Rattle.kernel_terms.specs.TableEntries.{channel_at, no_channel}
use Rattle.tick_log.specs.definitions.Containers.{LogState, HistoryState}
use Rattle.tick_log.specs.definitions.RunText.{interface_signals}
use Rattle.tick_log.specs.definitions.Fits.{IsEntry, IsRow, most_ticks}
use Rattle.cell_core.specs.definitions.Cells.{empty_cell}
use Rattle.domain_core.specs.definitions.step.Domains.{DomainView, ends_of, joins_at, tick_count_of, state_of}
use Rattle.kernel_rules.specs.definitions.LegalTick.{Inputs}
use Rattle.domain_core.specs.definitions.runs.Systems.{domain_count, setup_of}
use Rattle.domain_core.specs.definitions.runs.Scheduled.{turns_of}
use Rattle.domain_core.proofs.lemmas.runs.WellFormedSystems.{system_is_fresh, system_joins}
use Rattle.kernel_terms.proofs.SystemLimits.{few_domains}
use Rattle.gals_core.specs.declared.links.Link.{Link}
use Rattle.gals_core.specs.Channels.{ChannelsState, cell_in, history_in, link_at, no_history}
use Rattle.gals_core.specs.RunsOverCells.{IsNew}
use Rattle.gals_core.specs.BetweenTurns.{IsBetweenTurns, FitSoFar}
use Rattle.gals_core.specs.definitions.OrderPlans.{view_at, no_domain}
use Rattle.gals_core.specs.Opening.{AreOpened, Reserves, link_of, opened_history}
use Rattle.gals_core.specs.definitions.OrderPlans.{AreDomainsOf, AreBudgets, FitBudgets}
use Rattle.gals_core.specs.Plans.{IsReady, IsReserved}
use Rattle.gals_core.proofs.OwnStep.{at_own}
use Rattle.gals_core.proofs.RunTurns.{at_start}
use Rattle.gals_core.proofs.OpenedChannels.{link_is, all_same, domain_total}

-- the turns of the first n domains
abbrev sum_turns : ℕ → List ℕ → ℕ
sum_turns zero turns = 0
sum_turns (suc n) turns = sum_turns n turns + turns_of n turns

sum_none : (n : ℕ) → sum_turns n [] ≡ 0
sum_none zero = refl
sum_none (suc n) = omega (arith, sum_none n)

sum_past : (n e : ℕ) (turns : List ℕ) → n ≤ e → sum_turns n (e ∷ turns) ≡ sum_turns n turns
sum_past zero e turns past = refl
sum_past (suc n) e turns past =
    let rest = sum_past n e turns (omega (arith, past)) in
    let none = cond-false (e == n) (suc (turns_of n turns)) (turns_of n turns) (ne_eqb e n (λ q. omega (arith, q, past))) in
    omega (arith, rest, none)

sum_more : (n e : ℕ) (turns : List ℕ) → e < n → sum_turns n (e ∷ turns) ≡ suc (sum_turns n turns)
sum_more zero e turns less = absurd (omega (arith, less))
sum_more (suc n) e turns less = elim (cases_eq e n) [
  | inl q ↦
      let rest = sum_past n e turns (omega (arith, q)) in
      let one = cond-true (e == n) (suc (turns_of n turns)) (turns_of n turns) (eq-eqb e n q) in
      omega (arith, rest, one)
  | inr ne ↦
      let rest = sum_more n e turns (omega (arith, less, ne)) in
      let none = cond-false (e == n) (suc (turns_of n turns)) (turns_of n turns) (ne_eqb e n ne) in
      omega (arith, rest, none)
]

-- each turn is one of a domain
sum_all : (n : ℕ) (turns : List ℕ) → ((i : ℕ) → i < length turns → get_or turns i 0 < n) → length turns ≡ sum_turns n turns
sum_all n [] within = sym (sum_none n)
sum_all n (e ∷ turns) within =
    let rest = sum_all n turns (λ i less. within (suc i) (omega (arith, less))) in
    let more = sum_more n e turns (within 0 (omega arith)) in
    omega (arith, rest, more)

sum_few : (n : ℕ) (turns : List ℕ) → ((d : ℕ) → turns_of d turns ≤ most_ticks) → sum_turns n turns ≤ n * most_ticks
sum_few zero turns few = omega arith
sum_few (suc n) turns few = let rest = sum_few n turns few in omega (arith, rest, few n)

no_entries_fit : {X : Type 0} (P : X → Type 0) (xs : List X) → xs ≡ [] → All P xs
no_entries_fit P xs none = subst (All P) (sym none) (λ k x less. absurd (omega (arith, less)))

is_new : (system : System) (d ticks : ℕ) (v : DomainView) → IsReserved system d ticks v → IsNew system d v
is_new system d ticks v h =
    let k = h.compiled in
    record {
      of_system = ap (λ z. z.system) h.is ∙ k.of_system;
      of_domain = ap (λ z. z.domain) h.is ∙ k.number;
      going = ap (λ z. z.stopped) h.is ∙ k.going;
      entries = ap (λ z. z.log.entries) h.is ∙ ap (λ l. l.entries) k.log;
      mark = ap (λ z. z.log.mark) h.is ∙ ap (λ l. l.mark) k.log;
      stamp = ap (λ z. z.stamp) h.is ∙ k.stamp;
      lists = ap (λ z. length z.joins) h.is ∙ at_own h.first system d k.of_system k.number (λ y x. length h.first.joins ≡ length (ends_of (tables_of y) x)) k.lists;
      joins = λ n. ap (λ z. joins_at z.joins n) h.is ∙ k.joins n;
      standing = λ n. ap (λ z. get_or z.standing n false) h.is ∙ k.standing n;
      state = λ inputs. ap state_of h.is ∙ k.state inputs;
    }

-- no compiled domain has made a tick
pub ticks_fit : (system : System) (ticks : List ℕ) (views : List DomainView) → AreDomainsOf system views → AreBudgets system ticks
    → (d : ℕ) (v : DomainView) → d < length ticks → tick_count_of (get_or views d v) + get_or ticks d 0 < 2 ^ 32
ticks_fit system ticks views are budgets d v less =
    let within : d < length views = omega (arith, less, budgets.count, are.count) in
    let is : view_at system views d ≡ get_or views d v = get_or_default views d (no_domain system) v within in
    let none = ap (λ l. length l.entries) (are.compiled d within).log in
    let same = ap tick_count_of is in
    omega (arith, none, same, budgets.few d)

-- the plan as it is opened
pub is_ready : (system : System) (ticks kept : List ℕ) (old views : List DomainView) (b : ChannelsState) (logs : Vec LogState Global) → AreDomainsOf system old → AreBudgets system ticks → kept ≡ ticks → Reserves ticks (length old) old views →
    AreOpened system ticks b → logs.items ≡ [] → vec_capacity logs ≡ length old → IsReady system kept views b logs
is_ready system ticks kept old views b logs are budgets same h opened none room =
    subst (λ z. IsReady system z views b logs) (sym same) (record {
      budgets = budgets;
      count = h.count ∙ are.count;
      domains = λ d less.
          let l : d < length old = omega (arith, less, h.count) in
          let default = no_domain system in
          record { first = view_at system old d; compiled = are.compiled d l; is = h.done d default l l };
      channels = opened;
      no_logs = none;
      room = omega (arith, room, h.count);
    })

module _ (system : System) (inputs : Inputs) (ticks turns : List ℕ) (views : List DomainView) (b : ChannelsState) (logs : Vec LogState Global) (ready : IsReady system ticks views b logs) (fit : FitBudgets ticks turns) where
  abbrev infos : List ChannelInfo
  infos = (tables_of system).channels

  in_views : (d : ℕ) → d < domain_count (setup_of system inputs) → d < length views
  in_views d less = omega (arith, less, domain_total system, ready.count)

  few : 2 * length turns < 2 ^ 62
  few =
      let n = length ticks in
      let all = sum_all n turns fit.within in
      let most = sum_few n turns (λ d. omega (arith, fit.few d, ready.budgets.few d)) in
      omega (arith, all, most, ready.budgets.count, few_domains system)

  spare_is : (d : ℕ) → d < length views → get_or ticks d 0 ≤ (view_at system views d).spare
  spare_is d less =
      let h = ready.domains d less in
      let is = ap (λ z. z.spare) h.is in
      omega (arith, is, le-max_right h.first.spare (get_or ticks d 0))

  no_entries : (d : ℕ) → (view_at system views d).log.entries ≡ []
  no_entries d = elim (cases_lt d (length views)) [
    | inl less ↦ let h = ready.domains d less in ap (λ z. z.log.entries) h.is ∙ ap (λ l. l.entries) h.compiled.log
    | inr past ↦ ap (λ (z : DomainView). z.log.entries) (get_or_past views d (no_domain system) past)
  ]

  link_here : (c : ℕ) → c < length infos → link_at b.links c ≡ link_of (channel_at (tables_of system) c)
  link_here c less = ap (λ z. link_at z c) ready.channels.links ∙ link_is infos c less

  histories_are : (c : ℕ) → history_in b c ≡ get_or (map (opened_history ticks) infos) c no_history
  histories_are c = ap (λ z. get_or z c no_history) ready.channels.histories

  history_here : (c : ℕ) → c < length infos → history_in b c ≡ opened_history ticks (channel_at (tables_of system) c)
  history_here c less = histories_are c ∙ get_or-map (opened_history ticks) infos c no_channel no_history less

  no_rows : (c : ℕ) → (history_in b c).rows ≡ []
  no_rows c = elim (cases_lt c (length infos)) [
    | inl less ↦ ap (λ (z : HistoryState). z.rows) (history_here c less)
    | inr past ↦ ap (λ (z : HistoryState). z.rows) (histories_are c ∙ get_or_past (map (opened_history ticks) infos) c no_history (omega (arith, past, length-map infos (opened_history ticks))))
  ]

  fits : FitSoFar system inputs views b
  fits = record {
    signals = λ d less. let h = ready.domains d (in_views d less) in ap (λ z. z.log.signals) h.is ∙ ap (λ z. z.signals) h.compiled.log;
    entries = λ d less. no_entries_fit (IsEntry (interface_signals (tables_of system) d)) (view_at system views d).log.entries (no_entries d);
    marks = λ d less over.
        let h = ready.domains d (in_views d less) in
        absurd (true≢false (sym over ∙ ap is_over (ap (λ z. z.log.mark) h.is ∙ ap (λ z. z.mark) h.compiled.log)));
    rows = λ c less. no_entries_fit (IsRow (channel_at (tables_of system) c).kind) (history_in b c).rows (no_rows c);
  }

  pub starts : IsBetweenTurns system inputs turns turns views b
  starts = record {
    is_system = system_joins system inputs;
    few = few;
    domains = ready.count ∙ sym (domain_total system);
    turns_within = λ i less. omega (arith, fit.within i less, ready.budgets.count, domain_total system);
    spare = λ d less. omega (arith, spare_is d (in_views d less), fit.few d);
    limit = λ d less. omega (arith, ap length (no_entries d), fit.few d, ready.budgets.few d);
    link_count = ap length ready.channels.links ∙ length-map infos link_of;
    links = λ c less. (ap (λ (z : Link). z.sender) (link_here c less), ap (λ (z : Link). z.receiver) (link_here c less));
    kinds = λ c less. ap (λ (z : Link). z.kind) (link_here c less);
    tick_counts = ap length ready.channels.made ∙ length-replicate (length (domains_of system)) 0 ∙ sym (domain_total system);
    ticks = λ d less. ap (λ z. get_or z d 0) ready.channels.made ∙ all_same (length (domains_of system)) d 0 ∙ sym (ap length (no_entries d));
    lists = λ d less. ready.channels.lists d (omega (arith, less, domain_total system));
    rooms = λ c less.
        let room = ap (λ (z : HistoryState). z.room) (history_here c less) in
        omega (arith, room, fit.few (channel_at (tables_of system) c).sender, fit.few (channel_at (tables_of system) c).receiver);
    stands =
        at_start system inputs turns (view_at system views) (cell_in b) (λ c. (history_in b c).rows) (system_joins system inputs) (system_is_fresh system inputs)
        (λ d less. is_new system d (get_or ticks d 0) (view_at system views d) (ready.domains d (in_views d less))) no_entries
        (λ c. ap (λ z. get_or z c empty_cell) ready.channels.cells ∙ all_same (length infos) c empty_cell) no_rows;
    fits = fits;
  }
