-- What the recalls and the offers of a step are at the channels.
use Rattle.std.proofs.Common.{◌≡◌, ℕ, zero, suc, ◌<◌, ◌≤◌, ℤ, pos, Bool, true, false, List, length, get_or, Option, Some, None, is_some, refl, sym, ap, ◌∙◌, subst, inl, inr, arith}
use Rattle.kernel_terms.specs.declared.system.System.{System}
use Rattle.kernel_terms.specs.Systems.{tables_of}
use Rattle.kernel_rules.specs.definitions.LegalTick.{DomainState, Inputs}
use Rattle.cell_core.specs.declared.moves.Side.{Side}
use Rattle.cell_core.specs.declared.moves.Side.TheVariants.{Sender, Receiver}
use Rattle.cell_core.specs.declared.moves.Joined.{Joined}
use Rattle.kernel_terms.specs.Marks.{Mark}
use Rattle.tick_log.specs.definitions.Runs.{Entry}
use Rattle.domain_core.specs.declared.step.ends_of.EndOf.{EndOf}
use Rattle.domain_core.specs.definitions.step.EndCalls.{end_at, stands_after}
use Rattle.domain_core.specs.definitions.runs.Systems.{setup_of, IsSystem}
use Rattle.domain_core.specs.definitions.step.Steps.{at_channel, IsAsk, Waits, WaitsAs}
use Rattle.domain_core.specs.definitions.rounds.Rounds.{Offer, Rounds, found_at_offer, found_at_recall, RecallsStanding, OffersWaiting, MakesLog}
use Rattle.domain_core.proofs.lemmas.step.StateJoins.{ends_apart}
use Rattle.domain_core.specs.definitions.step.RoundsOf.{own_ends, recall_made, recalls_made, offer_made, offers_made, is_open, stands_from}
use Rattle.domain_core.proofs.lemmas.step.ChannelEnds.{EndThere, NoEnd, end_or_none, at_none, at_there, at_map, own_there, EndOfChannel, channel_end, own_either, sender_side, receiver_side}

-- what stands is recalled
recalls_stood : (o : Option Offer) (stood : Bool) (a : Option Joined) → stood ≡ stands_from o → RecallsStanding o (recall_made stood a)
recalls_stood None stood a q = ap (λ b. recall_made b a) q
recalls_stood (Some o) stood a q = by_reply o.reply refl q
  where
    by_reply : (r : Option Joined) → o.reply ≡ r → stood ≡ is_open r → RecallsStanding (Some o) (recall_made stood a)
    by_reply None e q = inr (e, (a, ap (λ b. recall_made b a) q))
    by_reply (Some j) e q = inl (ap is_some e, ap (λ b. recall_made b a) q)

-- nothing is offered where a domain has no end
pub offers_nowhere : (system : System) (inputs : Inputs) (d : ℕ) (entries : List Entry) (mark : Mark) (x : Rounds) → MakesLog (setup_of system inputs) d entries mark x → (c t : ℕ) → t ≤ length entries →
    NoEnd (own_ends system d) (length (own_ends system d)) c → x.offers t c ≡ None
offers_nowhere system inputs d entries mark x made c zero within none = made.none_before c
offers_nowhere system inputs d entries mark x made c (suc n) within none = by_offer (x.offers (suc n) c) refl
  where
    by_offer : (o : Option Offer) → x.offers (suc n) c ≡ o → x.offers (suc n) c ≡ None
    by_offer None q = q
    by_offer (Some o) q =
        let z = (made.rounds n (omega (arith, within))).offers_waiting.ends c o q in
        let w = own_there system d c z.0 z.1 in
        absurd (none w.place w.within w.channel)

pub recalls_standing : (system : System) (inputs : Inputs) (d : ℕ) (entries : List Entry) (mark : Mark) (x : Rounds) → MakesLog (setup_of system inputs) d entries mark x → (standing : List Bool) (answers : List (Option Joined)) →
    ((n : ℕ) → n < length (own_ends system d) → get_or standing n false ≡ stands_from (x.offers (length entries) (end_at (own_ends system d) n).channel)) →
    (c : ℕ) → RecallsStanding (x.offers (length entries) c) (recalls_made (own_ends system d) standing answers c)
recalls_standing system inputs d entries mark x made standing answers stands c =
    let ends = own_ends system d in
    let f : ℕ → Option (Option Joined) = λ n. recall_made (get_or standing n false) (get_or answers n None) in
    elim (end_or_none ends (length ends) c) [
      | inl h ↦
          let q : get_or standing h.place false ≡ stands_from (x.offers (length entries) c) = stands h.place h.within ∙ ap (λ k. stands_from (x.offers (length entries) k)) h.channel in
          subst (RecallsStanding (x.offers (length entries) c)) (sym (at_there ends f (ends_apart (tables_of system) d) c h))
          (recalls_stood (x.offers (length entries) c) (get_or standing h.place false) (get_or answers h.place None) q)
      | inr h ↦
          subst (λ o. RecallsStanding o (recalls_made ends standing answers c)) (sym (offers_nowhere system inputs d entries mark x made c (length entries) (omega arith) h))
          (at_none ends f (length ends) c h)
    ]

module _ (ends : List EndOf) where
  pub recalls_found : (standing : List Bool) (answers : List (Option Joined)) → ((n : ℕ) → n < length ends → get_or standing n false ≡ false → get_or answers n None ≡ None) →
      (c : ℕ) → found_at_recall (recalls_made ends standing answers c) ≡ at_channel ends (λ k. get_or answers k None) (length ends) c
  recalls_found standing answers alone c =
      at_map ends (λ n. recall_made (get_or standing n false) (get_or answers n None)) found_at_recall (λ k. get_or answers k None) (length ends) c refl
      (λ k l. each (get_or standing k false) (get_or answers k None) (alone k l))
    where
      each : (b : Bool) (a : Option Joined) → (b ≡ false → a ≡ None) → found_at_recall (recall_made b a) ≡ a
      each true a h = refl
      each false a h = sym (h refl)

  pub offers_found : (asks : List (Option ℤ)) (stamp : ℕ) (replies : List (Option Joined)) → ((n : ℕ) → n < length ends → get_or asks n None ≡ None → get_or replies n None ≡ None) →
      (c : ℕ) → found_at_offer (offers_made ends asks stamp replies c) ≡ at_channel ends (λ k. get_or replies k None) (length ends) c
  offers_found asks stamp replies replied c =
      at_map ends (λ n. offer_made (get_or asks n None) stamp (get_or replies n None)) found_at_offer (λ k. get_or replies k None) (length ends) c refl
      (λ k l. each (get_or asks k None) (get_or replies k None) (replied k l))
    where
      each : (b : Option ℤ) (a : Option Joined) → (b ≡ None → a ≡ None) → found_at_offer (offer_made b stamp a) ≡ a
      each (Some v) a h = refl
      each None a h = sym (h refl)

pub stands_made : (ask : Option ℤ) (stamp : ℕ) (reply : Option Joined) → stands_after ask reply ≡ stands_from (offer_made ask stamp reply)
stands_made None stamp reply = refl
stands_made (Some v) stamp None = refl
stands_made (Some v) stamp (Some j) = refl

-- the offer that an end made
record Made (ask : Option ℤ) (stamp : ℕ) (o : Offer) : Type 0 where
  asked : ask ≡ Some o.value
  stamped : o.stamp ≡ stamp

was_made : (ask : Option ℤ) (stamp : ℕ) (reply : Option Joined) (o : Offer) → offer_made ask stamp reply ≡ Some o → Made ask stamp o
was_made None stamp reply o e = absurd cc
was_made (Some v) stamp reply o e = record { asked = cc; stamped = cc }

some_made : (ask : Option ℤ) (stamp : ℕ) (reply : Option Joined) → (ask ≡ None → ⊥) → is_some (offer_made ask stamp reply) ≡ true
some_made None stamp reply h = absurd (h refl)
some_made (Some v) stamp reply h = refl

module _ (system : System) (inputs : Inputs) (d stamp : ℕ) (after : DomainState) (asks : List (Option ℤ)) (replies : List (Option Joined)) (sys : IsSystem (setup_of system inputs))
    (asked : (n : ℕ) → n < length (own_ends system d) → IsAsk (end_at (own_ends system d) n) after.statement (get_or asks n None)) where
  -- the offer is one of an end
  record FromEnd (c : ℕ) (o : Offer) : Type 0 where
    there : EndThere (own_ends system d) (length (own_ends system d)) c
    own : EndOfChannel system d c (end_at (own_ends system d) there.place)
    stamped : o.stamp ≡ stamp
    waits : Waits (end_at (own_ends system d) there.place) o.value after.statement

  from_end : (c : ℕ) (o : Offer) → offers_made (own_ends system d) asks stamp replies c ≡ Some o → FromEnd c o
  from_end c o e =
      let ends = own_ends system d in
      let f : ℕ → Option Offer = λ n. offer_made (get_or asks n None) stamp (get_or replies n None) in
      elim (end_or_none ends (length ends) c) [
        | inl h ↦
            let m = was_made (get_or asks h.place None) stamp (get_or replies h.place None) o (sym (at_there ends f (ends_apart (tables_of system) d) c h) ∙ e) in
            record {
              there = h;
              own = channel_end system d c h;
              stamped = m.stamped;
              waits = subst (IsAsk (end_at ends h.place) after.statement) m.asked (asked h.place h.within);
            }
        | inr h ↦ let n : offers_made ends asks stamp replies c ≡ None = at_none ends f (length ends) c h in absurd cc
      ]

  waits_as : (c : ℕ) (v : ℤ) (e : EndOf) (a : Side) → e.channel ≡ c → e.side ≡ a → Waits e v after.statement → WaitsAs a c v after.statement
  waits_as c v e a qc qa w = subst (λ k. WaitsAs a k v after.statement) qc (subst (λ s. WaitsAs s e.channel v after.statement) qa w)

  waits_so : (c : ℕ) (v : ℤ) (e : EndOf) (a : Side) → e.channel ≡ c → e.side ≡ a → WaitsAs a c v after.statement → Waits e v after.statement
  waits_so c v e a qc qa w = subst (λ s. WaitsAs s e.channel v after.statement) (sym qa) (subst (λ k. WaitsAs a k v after.statement) (sym qc) w)

  -- where an end waits there is an offer
  offered : (c : ℕ) (v : ℤ) (h : EndThere (own_ends system d) (length (own_ends system d)) c) → Waits (end_at (own_ends system d) h.place) v after.statement →
      is_some (offers_made (own_ends system d) asks stamp replies c) ≡ true
  offered c v h w =
      let ends = own_ends system d in
      let f : ℕ → Option Offer = λ n. offer_made (get_or asks n None) stamp (get_or replies n None) in
      ap is_some (at_there ends f (ends_apart (tables_of system) d) c h)
      ∙ some_made (get_or asks h.place None) stamp (get_or replies h.place None)
      (λ none. (subst (IsAsk (end_at ends h.place) after.statement) none (asked h.place h.within)) v w)

  pub offers_waiting : OffersWaiting (setup_of system inputs) d stamp after (offers_made (own_ends system d) asks stamp replies)
  offers_waiting = record {
    ends = λ c o e. let m = from_end c o e in (m.own.channel, own_either system d c (end_at (own_ends system d) m.there.place) m.own);
    stamps = λ c o e. (from_end c o e).stamped;
    sends = λ c o e is.
        let m = from_end c o e in
        let k = end_at (own_ends system d) m.there.place in
        waits_as c o.value k Sender m.there.channel (sender_side system d c k m.own is) m.waits;
    receives = λ c o e is.
        let m = from_end c o e in
        let k = end_at (own_ends system d) m.there.place in
        waits_as c o.value k Receiver m.there.channel (receiver_side system d c k sys.apart m.own is) m.waits;
    all_sends = λ c v less is w.
        let h = own_there system d c less (inl is) in
        let k = end_at (own_ends system d) h.place in
        offered c v h (waits_so c v k Sender h.channel (sender_side system d c k (channel_end system d c h) is) w);
    all_receives = λ c less is w.
        let h = own_there system d c less (inr is) in
        let k = end_at (own_ends system d) h.place in
        offered c (pos 0) h (waits_so c (pos 0) k Receiver h.channel (receiver_side system d c k sys.apart (channel_end system d c h) is) (w, refl));
  }
