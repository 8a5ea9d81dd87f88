-- The channels of a system as they are opened.
use Rattle.std.proofs.Common.{◌≡◌, ℕ, ◌<◌, List, [], length, get_or, map, replicate, refl, sym, ap, ◌∙◌, subst, inl, inr, arith}
use Rattle.std.specs.Prelude.{All}
use Rattle.std.proofs.lemmas.Bool.{cases_lt}
use Rattle.std.proofs.lemmas.List.{length-map, length-replicate, get_or-map, get_or-replicate, get_or_default, get_or_past}
use Rattle.kernel_terms.specs.declared.system.System.{System}
use Rattle.kernel_terms.specs.declared.tables.ChannelInfo.{ChannelInfo}
use Rattle.kernel_terms.specs.Systems.{tables_of, domains_of}
use Rattle.kernel_terms.specs.Statements.{statement}
use Rattle.kernel_rules.specs.definitions.LegalTick.{no_inputs}
use Rattle.kernel_terms.specs.TableEntries.{channel_at, no_channel}
use Rattle.java_values.specs.declared.kind.Kind.TheVariants as kind
use Rattle.tick_log.specs.definitions.Containers.{HistoryState}
use Rattle.cell_core.specs.definitions.Cells.{CellState, empty_cell}
use Rattle.cell_core.specs.CellEnds.{CellFits}
use Rattle.domain_core.specs.declared.step.ends_of.EndOf.{EndOf}
use Rattle.domain_core.specs.definitions.step.Domains.{DomainView, ends_of, ends_in}
use Rattle.domain_core.proofs.lemmas.runs.WellFormedSystems.{system_joins}
use Rattle.gals_core.specs.declared.links.Link.{Link}
use Rattle.gals_core.specs.Channels.{ChannelsState, AreChannels, EndsFit, link_at, cell_in}
use Rattle.gals_core.specs.definitions.OrderPlans.{view_at, no_domain}
use Rattle.gals_core.specs.Opening.{AreOpened, IsWithin, link_of, opened_history}
use Rattle.gals_core.specs.definitions.OrderPlans.{AreDomainsOf, AreBudgets}
use Rattle.domain_core.proofs.lemmas.step.StateJoins.{ends_apart}
use Rattle.domain_core.proofs.lemmas.step.OwnEnds.{own_end}
use Rattle.gals_core.proofs.OwnStep.{at_own}

pub link_is : (infos : List ChannelInfo) (c : ℕ) → c < length infos → link_at (map link_of infos) c ≡ link_of (get_or infos c no_channel)
link_is infos c less = get_or-map link_of infos c no_channel (record { kind = kind.Int; sender = 0; receiver = 0 }) less

pub all_same : {X : Type 0} (n c : ℕ) (x : X) → get_or (replicate n x) c x ≡ x
all_same n c x = elim (cases_lt c n) [
  | inl less ↦ get_or-replicate n c x x less
  | inr past ↦ get_or_past (replicate n x) c x (omega (arith, length-replicate n x, past))
]

pub domain_total : (system : System) → length (map statement (domains_of system)) ≡ length (domains_of system)
domain_total system = length-map (domains_of system) statement

module _ (system : System) (ticks : List ℕ) (views : List DomainView) (are : AreDomainsOf system views) (budgets : AreBudgets system ticks) where
  abbrev infos : List ChannelInfo
  infos = (tables_of system).channels

  pub all_within : All (IsWithin (length ticks)) infos
  all_within k d less =
      let same : get_or infos k no_channel ≡ get_or infos k d = get_or_default infos k no_channel d less in
      let s = (system_joins system no_inputs).sender k less in
      let r = (system_joins system no_inputs).receiver k less in
      let within : IsWithin (length ticks) (get_or infos k no_channel) = record {
        sender = omega (arith, s, domain_total system, budgets.count);
        receiver = omega (arith, r, domain_total system, budgets.count);
      } in
      subst (IsWithin (length ticks)) same within

  ends_are : (d : ℕ) → d < length views → get_or (map ends_in views) d [] ≡ ends_of (tables_of system) d
  ends_are d less =
      let v = view_at system views d in
      let k = are.compiled d less in
      get_or-map ends_in views d (no_domain system) [] less
      ∙ at_own v system d k.of_system k.number (λ y x. ends_in v ≡ ends_of (tables_of y) x) refl

  module _ (links : List Link) (cells : List CellState) (histories : List HistoryState) (made : List ℕ) (lists : List (List EndOf)) (ends : List EndOf) (links_are : links ≡ map link_of infos) (cells_are : cells ≡ replicate (length infos) empty_cell)
      (histories_are : histories ≡ map (opened_history ticks) infos) (made_is : made ≡ replicate (length views) 0) (lists_are : lists ≡ map ends_in views) where
    abbrev b : ChannelsState
    b = record { links = links; cells = cells; histories = histories; ticks = made; lists = lists; ends = ends }

    link_count : length links ≡ length infos
    link_count = ap length links_are ∙ length-map infos link_of

    link_here : (c : ℕ) → c < length links → link_at links c ≡ link_of (channel_at (tables_of system) c)
    link_here c less = ap (λ z. link_at z c) links_are ∙ link_is infos c (omega (arith, less, link_count))

    made_count : length made ≡ length (domains_of system)
    made_count = ap length made_is ∙ length-replicate (length views) 0 ∙ are.count

    cell_here : (c : ℕ) → cell_in b c ≡ empty_cell
    cell_here c = ap (λ z. get_or z c empty_cell) cells_are ∙ all_same (length infos) c empty_cell

    own_fit : (d : ℕ) → EndsFit links (ends_of (tables_of system) d)
    own_fit d = record {
      apart = ends_apart (tables_of system) d;
      within = λ n less. let y = own_end (tables_of system) d n less in omega (arith, y.channel, link_count);
    }

    no_ends : EndsFit links []
    no_ends = record { apart = λ i k less. absurd (omega (arith, less)); within = λ n less. absurd (omega (arith, less)) }

    pub are_channels : AreChannels b
    are_channels = record {
      cell_count = ap length cells_are ∙ length-replicate (length infos) empty_cell ∙ sym link_count;
      history_count = ap length histories_are ∙ length-map infos (opened_history ticks) ∙ sym link_count;
      fits = λ c less. subst (CellFits (link_at links c).kind) (sym (cell_here c)) (record { sender = tt; receiver = tt });
      senders = λ c less. omega (arith, ap (λ (z : Link). z.sender) (link_here c less), (system_joins system no_inputs).sender c (omega (arith, less, link_count)), domain_total system, made_count);
      receivers = λ c less. omega (arith, ap (λ (z : Link). z.receiver) (link_here c less), (system_joins system no_inputs).receiver c (omega (arith, less, link_count)), domain_total system, made_count);
      ends_fit = λ d. subst (λ z. EndsFit links (get_or z d [])) (sym lists_are) (elim (cases_lt d (length views)) [
        | inl less ↦ subst (EndsFit links) (sym (ends_are d less)) (own_fit d)
        | inr past ↦ subst (EndsFit links) (sym (get_or_past (map ends_in views) d [] (omega (arith, past, length-map views ends_in)))) no_ends
      ]);
    }

    pub are_opened : AreOpened system ticks b
    are_opened = record {
      links = links_are;
      cells = cells_are;
      histories = histories_are;
      made = made_is ∙ ap (λ n. replicate n 0) are.count;
      lists = λ d less. ap (λ z. get_or z d []) lists_are ∙ ends_are d (omega (arith, less, are.count));
    }
