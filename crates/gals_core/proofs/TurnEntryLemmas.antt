-- The entry and the rows of a turn are those of the system.
use Rattle.std.proofs.Common.{◌≡◌, ◌≢◌, ℕ, zero, suc, ◌^◌, ◌<◌, ◌≤◌, List, [], ◌++◌, length, get_or, Option, Some, None, refl, sym, ap, ◌∙◌, subst, inl, inr, arith}
use Rattle.std.specs.Prelude.{IfSome, max, All}
use Rattle.std.proofs.lemmas.Bool.{cases_eq}
use Rattle.std.proofs.lemmas.List.Elements.{All-append, All-push}
use Rattle.kernel_rules.specs.definitions.LegalTick.{Inputs}
use Rattle.kernel_terms.specs.declared.system.System.{System}
use Rattle.kernel_terms.specs.Systems.{tables_of}
use Rattle.kernel_terms.specs.TableEntries.{channel_at}
use Rattle.tick_log.specs.definitions.RunText.{interface_signals}
use Rattle.tick_log.specs.definitions.Fits.{IsEntry, IsRow, most_ticks}
use Rattle.cell_core.specs.declared.moves.Side.{Side}
use Rattle.cell_core.specs.declared.moves.Side.TheVariants.{Sender, Receiver}
use Rattle.cell_core.specs.declared.moves.Joined.{Joined}
use Rattle.domain_core.specs.definitions.step.EndCalls.{end_at}
use Rattle.domain_core.specs.step.Answers.{raised, raised_by}
use Rattle.domain_core.specs.definitions.step.Domains.{DomainView}
use Rattle.domain_core.specs.definitions.step.Steps.{FitsJoin}
use Rattle.domain_core.specs.definitions.runs.Stamps.{stamp_of_join}
use Rattle.domain_core.specs.definitions.runs.Systems.{IsSystem, domain_count, channel_count, setup_of}
use Rattle.gals_core.specs.Channels.{ChannelsState, history_in, ticks_in, link_at, row_in}
use Rattle.domain_core.proofs.lemmas.step.OwnEnds.{IsOwn, own_end, has_side}
use Rattle.gals_core.proofs.CallEffects.{new_rows}
use Rattle.gals_core.proofs.OwnStep.{OwnStep, ends_at}

-- a stamp with the joins answered at the first n ends is no less than that of one of them
raised_covers : (a : List (Option Joined)) (n m x : ℕ) (j : Joined) → m < n → get_or a m None ≡ Some j → stamp_of_join j ≤ raised a n x
raised_covers a zero m x j less q = absurd (omega (arith, less))
raised_covers a (suc n) m x j less q = elim (cases_eq m n) [
  | inl e ↦ here (get_or a n None) (ap (λ z. get_or a z None) (sym e) ∙ q)
  | inr ne ↦ there (get_or a n None) (raised a n x) (raised_covers a n m x j (omega (arith, less, ne)) q)
]
  where
    here : (o : Option Joined) → o ≡ Some j → stamp_of_join j ≤ raised_by o (raised a n x)
    here None h = cc
    here (Some i) h = let e : i ≡ j = cc in subst (λ z. stamp_of_join z ≤ max (raised a n x) (stamp_of_join i)) e (omega arith)

    there : (o : Option Joined) (y : ℕ) → stamp_of_join j ≤ y → stamp_of_join j ≤ raised_by o y
    there None y h = h
    there (Some i) y h = omega (arith, h)

module _ (system : System) (inputs : Inputs) (d : ℕ) (old new : DomainView) (before after : ChannelsState) (x : OwnStep system inputs d old new before after) where
  pub entries_fit : All (IsEntry (interface_signals (tables_of system) d)) old.log.entries → All (IsEntry (interface_signals (tables_of system) d)) new.log.entries
  entries_fit h =
      let P = IsEntry (interface_signals (tables_of system) d) in
      subst (All P) (sym x.entries)
      (All-push P old.log.entries (record { stamp = x.stamp; statuses = x.statuses }) h
      (record { stamp = record { first = omega (arith, x.next); last = x.limit }; statuses = x.shows }))

  module _ (sys : IsSystem (setup_of system inputs))
      (links : (c : ℕ) → c < channel_count (setup_of system inputs) → ((link_at before.links c).sender ≡ (channel_at (tables_of system) c).sender) × ((link_at before.links c).receiver ≡ (channel_at (tables_of system) c).receiver))
      (few : (e : ℕ) → e < domain_count (setup_of system inputs) → ticks_in before e ≤ most_ticks) (low : raised x.replies (length (ends_at system d)) x.stamp < 2 ^ 62) where
    abbrev at : ℕ → ℕ
    at n = (end_at (ends_at system d) n).channel

    row_fits : (n : ℕ) → n < length (ends_at system d) → (o : Option Joined) → get_or x.replies n None ≡ o → All (IsRow (channel_at (tables_of system) (at n)).kind) (new_rows x.middle (at n) o)
    row_fits n less None q = λ k e l. absurd (omega (arith, l))
    row_fits n less (Some j) q =
        let c = at n in
        let info = channel_at (tables_of system) c in
        let y = own_end (tables_of system) d n less in
        let f : FitsJoin info.kind x.stamp j = subst (λ z. IfSome z (FitsJoin info.kind x.stamp)) q (x.fit n less) in
        let s : get_or x.middle.ticks (link_at x.middle.links c).sender 0 ≡ ticks_in before info.sender =
        ap (λ z. get_or z (link_at x.middle.links c).sender 0) x.recalled.ticks
        ∙ ap (λ z. get_or before.ticks (link_at z c).sender 0) x.recalled.links
        ∙ ap (λ z. get_or before.ticks z 0) (links c y.channel).0 in
        let r : get_or x.middle.ticks (link_at x.middle.links c).receiver 0 ≡ ticks_in before info.receiver =
        ap (λ z. get_or z (link_at x.middle.links c).receiver 0) x.recalled.ticks
        ∙ ap (λ z. get_or before.ticks (link_at z c).receiver 0) x.recalled.links
        ∙ ap (λ z. get_or before.ticks z 0) (links c y.channel).1 in
        let covers = raised_covers x.replies (length (ends_at system d)) n x.stamp j less q in
        All-push (IsRow info.kind) [] (row_in x.middle c j) (λ k e l. absurd (omega (arith, l))) (record {
          value = f.value;
          sender = omega (arith, s, few info.sender (sys.sender c y.channel));
          receiver = omega (arith, r, few info.receiver (sys.receiver c y.channel));
          stamp = record { first = omega arith; last = omega (arith, covers, low) };
        })

    at_end : (n : ℕ) → n < length (ends_at system d) → All (IsRow (channel_at (tables_of system) (at n)).kind) (history_in before (at n)).rows → All (IsRow (channel_at (tables_of system) (at n)).kind) (history_in after (at n)).rows
    at_end n less h =
        let P = IsRow (channel_at (tables_of system) (at n)).kind in
        let reply = get_or x.replies n None in
        subst (All P) (sym ((x.offered.passed n less).rows ∙ ap (λ z. z ++ new_rows x.middle (at n) reply) (x.recalled.rows (at n))))
        (All-append P (history_in before (at n)).rows (new_rows x.middle (at n) reply) h (row_fits n less reply refl))

    abbrev Fit : ChannelsState → ℕ → Type 0
    Fit b c = All (IsRow (channel_at (tables_of system) c).kind) (history_in b c).rows

    at_own : (c : ℕ) → c < channel_count (setup_of system inputs) → (side : Side) → IsOwn d side (channel_at (tables_of system) c) → Fit before c → Fit after c
    at_own c less side own h =
        let f = has_side (tables_of system) d c side less own in
        let is : at f.place ≡ c = ap (λ z. z.channel) f.is in
        subst (Fit after) is (at_end f.place f.within (subst (Fit before) (sym is) h))

    at_other : (c : ℕ) → ((side : Side) → IsOwn d side (channel_at (tables_of system) c) → ⊥) → Fit before c → Fit after c
    at_other c none h =
        let far : (n : ℕ) → n < length (ends_at system d) → c ≢ at n = λ n less q.
        let y = own_end (tables_of system) d n less in
        none (end_at (ends_at system d) n).side (subst (λ z. IsOwn d (end_at (ends_at system d) n).side (channel_at (tables_of system) z)) (sym q) y.own) in
        subst (All (IsRow (channel_at (tables_of system) c).kind)) (sym (x.offered.other_rows c far ∙ x.recalled.rows c)) h

    pub rows_fit : (c : ℕ) → c < channel_count (setup_of system inputs) → Fit before c → Fit after c
    rows_fit c less h = elim (cases_eq (channel_at (tables_of system) c).sender d) [
      | inl q ↦ at_own c less Sender q h
      | inr ns ↦ elim (cases_eq (channel_at (tables_of system) c).receiver d) [
        | inl q ↦ at_own c less Receiver (ns, q) h
        | inr nr ↦ at_other c (neither c ns nr) h
      ]
    ]
      where
        neither : (c : ℕ) → (channel_at (tables_of system) c).sender ≢ d → (channel_at (tables_of system) c).receiver ≢ d → (side : Side) → IsOwn d side (channel_at (tables_of system) c) → ⊥
        neither c ns nr Sender own = ns own
        neither c ns nr Receiver own = nr own.1
