-- A step of a domain is a round of it.
use Rattle.std.proofs.Common.{◌≡◌, ℕ, zero, suc, ◌<◌, ◌≤◌, ℤ, Bool, true, false, List, [], ◌∷◌, ◌++◌, length, map, get_or, Option, Some, None, length-append, append_assoc, refl, sym, ap, ◌∙◌, subst, arith}
use Rattle.std.proofs.Math.Path.{fun_ext}
use Rattle.std.proofs.lemmas.List.{map-append, append-nil}
use Rattle.kernel_terms.specs.declared.system.System.{System}
use Rattle.kernel_rules.specs.definitions.LegalTick.{Inputs, IsLegalTick}
use Rattle.cell_core.specs.declared.moves.Joined.{Joined}
use Rattle.cell_core.specs.declared.moves.CellMove.{CellMove}
use Rattle.tick_log.specs.definitions.Runs.{Entry}
use Rattle.tick_log.specs.definitions.Containers.{LogState}
use Rattle.domain_core.specs.declared.step.ends_of.EndOf.{EndOf}
use Rattle.domain_core.specs.declared.step.ends_of.EndJoin.{EndJoin}
use Rattle.domain_core.specs.declared.step.outcome.Stepped.{Stepped}
use Rattle.domain_core.specs.definitions.runs.Systems.{Setup, IsSystem, setup_of, with_found}
use Rattle.domain_core.specs.definitions.runs.Stamps.{IsTickStamp, last_stamp}
use Rattle.domain_core.specs.definitions.step.EndCalls.{end_at}
use Rattle.domain_core.specs.definitions.step.Domains.{DomainView, ends_in, tables_in, tick_count_of, state_of, joins_at}
use Rattle.domain_core.specs.definitions.step.Steps.{at_channel, answered, count_in, add_joins, IsStampSince, IsStep, TicksOnce, Stops}
use Rattle.domain_core.specs.definitions.rounds.Rounds.{Offer, Rounds, found_at_offer, found_at_recall, value_found, offered, recalled, join_found, IsFoundStamp, entry_stamps, RecallsStanding, Found, found_from, found_entry, IsRounds, IsOpenRounds, MakesRound, with_round, with_recalls}
use Rattle.domain_core.specs.definitions.step.RoundsOf.{recalls_made, offer_made, offers_made, stands_from, found_in, AreRoundsOf, MadeRound, MadeCut}
use Rattle.domain_core.proofs.lemmas.runs.StatesBetweenTicks.{put_here}
use Rattle.domain_core.proofs.lemmas.runs.WellFormedSystems.{system_joins}
use Rattle.domain_core.proofs.lemmas.step.StateJoins.{ends_apart}
use Rattle.domain_core.proofs.lemmas.step.ChannelEnds.{EndThere, at_end, own_there}
use Rattle.domain_core.proofs.lemmas.rounds.RoundFacts.{all_stand}
use Rattle.domain_core.proofs.lemmas.rounds.RoundsGrow.{entry_last, rounds_more, rounds_close}
use Rattle.domain_core.proofs.lemmas.rounds.MovesGrow.{joins_grown, joins_closed}
use Rattle.domain_core.proofs.lemmas.rounds.RoundsStamps.{was_offered}
use Rattle.domain_core.proofs.lemmas.step.JoinsSinceTick.{tick_stamp_same, since_is_found, found_is_since, join_if, found_if, joins_length, all_joined}
use Rattle.domain_core.proofs.lemmas.step.RoundParts.{recalls_standing, recalls_found, offers_found, stands_made, offers_waiting as waiting}

module _ (inputs : Inputs) (old : DomainView) (x : Rounds) (answers : List (Option Joined)) (stamp : ℕ) (h : AreRoundsOf old.system inputs old.domain old x)
    (alone : (n : ℕ) → n < count_in old → get_or old.standing n false ≡ false → get_or answers n None ≡ None)
    (next : IsTickStamp old.stamp (IsStampSince (add_joins (tick_count_of old) answers (count_in old) old.joins) (tick_count_of old)) stamp) where
  abbrev ends : List EndOf
  ends = ends_in old

  abbrev count : ℕ
  count = length (ends_in old)

  abbrev setup : Setup
  setup = setup_of old.system inputs

  abbrev sys : IsSystem setup
  sys = system_joins old.system inputs

  abbrev t : ℕ
  t = length old.log.entries

  abbrev R : ℕ → Option (Option Joined)
  R = recalls_made ends old.standing answers

  abbrev middle : List (List EndJoin)
  middle = add_joins t answers count old.joins

  stands : (c : ℕ) → RecallsStanding (x.offers t c) (R c)
  stands = recalls_standing old.system inputs old.domain old.log.entries old.log.mark x h.so_far.made old.standing answers h.standing

  finds : (c : ℕ) → found_at_recall (R c) ≡ at_channel ends (λ k. get_or answers k None) count c
  finds = recalls_found ends old.standing answers alone

  -- the state in which the tick is made
  ready : with_found (tables_in old) old.domain (answered ends answers) (state_of old) ≡ recalled setup old.domain (x.after t) (x.offers t) R
  ready =
      ap (with_found (tables_in old) old.domain (answered ends answers)) h.state
      ∙ ap (λ f. with_found (tables_in old) old.domain f (offered setup old.domain (x.after t) (x.offers t))) (fun_ext (λ c. ap value_found (sym (finds c))))

  -- the rounds with the recalls
  abbrev closed : Bool → Rounds
  closed cut = with_recalls x t R cut

  whole : (cut : Bool) → IsRounds setup old.domain old.log.entries old.log.mark (closed cut)
  whole cut = rounds_close setup old.domain old.log.entries old.log.mark x R cut h.so_far stands

  middle_length : length middle ≡ count
  middle_length = joins_length t answers count old.joins ∙ h.lists

  middle_found : (cut : Bool) (n : ℕ) → n < count → map found_in (joins_at middle n) ≡ found_from (closed cut) (end_at ends n).channel 1 t
  middle_found cut n less =
      let c = (end_at ends n).channel in
      let a = get_or answers n None in
      let here : at_channel ends (λ k. get_or answers k None) count c ≡ a = at_end ends (λ k. get_or answers k None) (ends_apart (tables_in old) old.domain) count n (omega arith) less in
      ap (map found_in) (all_joined t answers count n old.joins less (omega (arith, h.lists)))
      ∙ map-append found_in (joins_at old.joins n) (join_if t a)
      ∙ ap (λ l. l ++ map found_in (join_if t a)) (h.joins n less)
      ∙ ap (λ l. found_from x c 1 t ++ l) (sym (append-nil (map found_in (join_if t a))) ∙ sym (found_if t a []))
      ∙ ap (λ o. found_from x c 1 t ++ found_entry t o []) (sym (finds c ∙ here))
      ∙ sym (joins_closed setup old.domain old.log.entries old.log.mark x R cut h.so_far stands c)

  -- an offer is made at an end, after a tick
  there : (c : ℕ) (j : Joined) → join_found (x.offers t) R c ≡ Some j → EndThere ends count c × (1 ≤ t)
  there c j is =
      let o = was_offered (x.offers t c) (R c) j (stands c) is in
      after_tick t refl o.0 o.1
    where
      after_tick : (n : ℕ) → t ≡ n → (o : Offer) → x.offers t c ≡ Some o → EndThere ends count c × (1 ≤ t)
      after_tick zero e o q = let none = ap (λ k. x.offers k c) e ∙ h.so_far.made.none_before c in absurd cc
      after_tick (suc n) e o q =
          let z = (h.so_far.made.rounds n (omega (arith, e))).offers_waiting.ends c o (ap (λ k. x.offers k c) (sym e) ∙ q) in
          (own_there old.system old.domain c z.0 z.1, omega (arith, e))

  recalls_are : (cut : Bool) → (closed cut).recalls t ≡ R
  recalls_are cut = put_here x.recalls t R

  -- the stamp of the rule
  pub round_stamp : IsTickStamp (last_stamp (entry_stamps old.log.entries) t) (IsFoundStamp (x.offers t) R) stamp
  round_stamp =
      tick_stamp_same old.stamp (last_stamp (entry_stamps old.log.entries) t) (IsStampSince middle t) (IsFoundStamp (x.offers t) R) stamp h.last
      (λ s k.
      subst (λ r. IsFoundStamp (x.offers t) r s) (recalls_are false)
      (since_is_found ends middle (closed false) t middle_length (middle_found false) (all_stand setup old.domain old.log.entries old.log.mark (closed false) (whole false)) s k))
      (λ s k.
      found_is_since ends middle (closed false) t middle_length (middle_found false)
      (λ c j e. there c j (ap (λ r. join_found (x.offers t) r c) (sym (recalls_are false)) ∙ e)) s
      (subst (λ r. IsFoundStamp (x.offers t) r s) (sym (recalls_are false)) k))
      next

  pub cut_made : (new : DomainView) (result : Stepped) → new.system ≡ old.system → new.domain ≡ old.domain → Stops old new answers stamp result →
      MadeCut old.system inputs old.domain old new x answers stamp
  cut_made new result of_system of_domain k =
      let y = closed true in
      let same_count : tick_count_of new ≡ t = ap (λ l. length l.entries) k.log in
      record {
        entries = ap (λ l. l.entries) k.log;
        rounds = record {
          of_system = of_system;
          of_domain = of_domain;
          whole = subst (λ (l : LogState). IsRounds setup old.domain l.entries l.mark y) (sym k.log) (whole true);
          cut = refl;
          state =
              k.state ∙ ready
              ∙ ap (recalled setup old.domain (x.after t) (x.offers t)) (sym (recalls_are true))
              ∙ ap (λ z. recalled setup old.domain (y.after z) (y.offers z) (y.recalls z)) (sym same_count);
          limit = k.limit;
          next =
              subst (λ (l : LogState). IsTickStamp (last_stamp (entry_stamps l.entries) (length l.entries)) (IsFoundStamp (y.offers (length l.entries)) (y.recalls (length l.entries))) stamp) (sym k.log)
              (subst (λ r. IsTickStamp (last_stamp (entry_stamps old.log.entries) t) (IsFoundStamp (x.offers t) r) stamp) (sym (recalls_are true)) round_stamp);
          last = k.last_stamp ∙ h.last ∙ ap (λ (l : LogState). last_stamp (entry_stamps l.entries) (length l.entries)) (sym k.log);
          idle = k.standing;
          joins = λ n less.
              ap (λ js. map found_in (joins_at js n)) k.joins
              ∙ middle_found true n less
              ∙ ap (λ z. found_from y (end_at ends n).channel 1 z) (sym same_count);
        };
      }

  module _ (new : DomainView) (replies : List (Option Joined)) (asks : List (Option ℤ)) (result : Stepped) (of_system : new.system ≡ old.system) (of_domain : new.domain ≡ old.domain)
      (k : TicksOnce inputs old new answers replies asks stamp result) where
    abbrev O : ℕ → Option Offer
    O = offers_made ends asks stamp replies

    abbrev y : Rounds
    y = with_round x t R k.after O

    abbrev entry : Entry
    entry = record { stamp = stamp; statuses = k.statuses }

    makes : MakesRound setup old.domain old.log.entries x R entry k.after O
    makes = record {
      stands = stands;
      stamp = round_stamp;
      tick = subst (λ s. IsLegalTick (tables_in old) inputs old.domain s k.statuses k.after) ready k.legal;
      offers_waiting = waiting old.system inputs old.domain stamp k.after asks replies sys k.asked;
    }

    finds_offered : (c : ℕ) → found_at_offer (O c) ≡ at_channel ends (λ k. get_or replies k None) count c
    finds_offered = offers_found ends asks stamp replies k.replied

    pub round_made : MadeRound old.system inputs old.domain old new x answers replies asks stamp
    round_made =
        let d = old.domain in
        let entries : new.log.entries ≡ old.log.entries ++ entry ∷ [] = ap (λ l. l.entries) k.log in
        let more : tick_count_of new ≡ suc t = ap length entries ∙ let l = length-append old.log.entries (entry ∷ []) in omega (arith, l) in
        let after_new : y.after (suc t) ≡ k.after = put_here x.after (suc t) k.after in
        let offers_new : y.offers (suc t) ≡ O = put_here x.offers (suc t) O in
        record {
          entry = entry;
          after = k.after;
          entries = entries;
          makes = makes;
          rounds = record {
            of_system = of_system;
            of_domain = of_domain;
            so_far =
                subst (λ (l : LogState). IsOpenRounds setup d l.entries l.mark y) (sym k.log)
                (rounds_more setup d old.log.entries old.log.mark x R entry k.after O h.so_far makes);
            uncut = refl;
            state =
                k.state
                ∙ ap (λ f. with_found (tables_in old) d f k.after) (fun_ext (λ c. ap value_found (sym (finds_offered c))))
                ∙ ap (offered setup d k.after) (sym offers_new)
                ∙ ap (λ s. offered setup d s (y.offers (suc t))) (sym after_new)
                ∙ ap (λ z. offered setup d (y.after z) (y.offers z)) (sym more);
            standing = λ n less.
                let c = (end_at ends n).channel in
                k.standing n less
                ∙ stands_made (get_or asks n None) stamp (get_or replies n None)
                ∙ ap stands_from (sym (at_end ends (λ n. offer_made (get_or asks n None) stamp (get_or replies n None)) (ends_apart (tables_in old) d) count n (omega arith) less))
                ∙ ap (λ f. stands_from (f c)) (sym offers_new)
                ∙ ap (λ z. stands_from (y.offers z c)) (sym more);
            last =
                k.last_stamp
                ∙ ap (λ z. z.stamp) (sym (entry_last old.log.entries entry (record { stamp = 0; statuses = [] })))
                ∙ ap (λ es. entry_stamps es t) (sym entries)
                ∙ ap (last_stamp (entry_stamps new.log.entries)) (sym more);
            lists = ap length k.joins ∙ joins_length (suc t) replies count middle ∙ middle_length;
            joins = λ n less.
                let c = (end_at ends n).channel in
                let b = get_or replies n None in
                let found = found_from x c 1 t in
                let behind : at_channel ends (λ k. get_or replies k None) count c ≡ b = at_end ends (λ k. get_or replies k None) (ends_apart (tables_in old) d) count n (omega arith) less in
                ap (λ js. map found_in (joins_at js n)) k.joins
                ∙ ap (map found_in) (all_joined (suc t) replies count n middle less (omega (arith, middle_length)))
                ∙ map-append found_in (joins_at middle n) (join_if (suc t) b)
                ∙ ap (λ l. l ++ map found_in (join_if (suc t) b)) (middle_found false n less ∙ joins_closed setup d old.log.entries old.log.mark x R false h.so_far stands c)
                ∙ append_assoc found (found_entry t (found_at_recall (R c)) []) (map found_in (join_if (suc t) b))
                ∙ ap (λ l. found ++ (found_entry t (found_at_recall (R c)) [] ++ l)) (sym (append-nil (map found_in (join_if (suc t) b))) ∙ sym (found_if (suc t) b []))
                ∙ ap (λ l. found ++ l) (entry_more t (found_at_recall (R c)) (found_entry (suc t) b []))
                ∙ ap (λ o. found ++ found_entry t (found_at_recall (R c)) (found_entry (suc t) o [])) (sym (finds_offered c ∙ behind))
                ∙ sym (joins_grown setup d old.log.entries old.log.mark x R entry k.after O h.so_far makes c)
                ∙ ap (λ z. found_from y c 1 z) (sym more);
          };
        }
      where
        entry_more : (n : ℕ) (a : Option Joined) (rest : List Found) → found_entry n a [] ++ rest ≡ found_entry n a rest
        entry_more n None rest = refl
        entry_more n (Some j) rest = refl

-- with the domain's system and number in place
pub at_own : (v : DomainView) (system : System) (d : ℕ) → v.system ≡ system → v.domain ≡ d → (P : System → ℕ → Type 0) → P v.system v.domain → P system d
at_own v system d qs qd P h = subst (λ z. P system z) qd (subst (λ z. P z v.domain) qs h)

module _ {S : Type 0} (moved : S → ℕ → CellMove → Option Joined → S → Type 0) (system : System) (inputs : Inputs) (d : ℕ) (before after : S) (old new : DomainView) (result : Stepped) (x : Rounds) (h : AreRoundsOf system inputs d old x) (i : IsStep moved inputs before after old new result) where
  pub step_is_round : TicksOnce inputs old new i.answers i.replies i.asks i.stamp result → MadeRound system inputs d old new x i.answers i.replies i.asks i.stamp
  step_is_round k =
      at_own old system d h.of_system h.of_domain (λ y z. AreRoundsOf y inputs z old x → MadeRound y inputs z old new x i.answers i.replies i.asks i.stamp)
      (λ o. round_made inputs old x i.answers i.stamp o i.alone i.next new i.replies i.asks result i.system i.domain k) h

  pub stop_is_cut : Stops old new i.answers i.stamp result → MadeCut system inputs d old new x i.answers i.stamp
  stop_is_cut k =
      at_own old system d h.of_system h.of_domain (λ y z. AreRoundsOf y inputs z old x → MadeCut y inputs z old new x i.answers i.stamp)
      (λ o. cut_made inputs old x i.answers i.stamp o i.alone i.next new result i.system i.domain k) h
