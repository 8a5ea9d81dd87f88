-- Rounds whose stamps follow from what the domain itself found have the stamps of the whole run.
use Rattle.std.proofs.Common.{◌≡◌, ℕ, zero, suc, ◌+◌, ◌<◌, ◌≤◌, false, List, [], ◌∷◌, Option, Some, None, length, map, refl, sym, ap, ◌∙◌, subst, inl, inr, arith, ◌⊎◌}
use Rattle.std.specs.Prelude.{is_some, ◌&&◌, max, slice_index_or}
use Rattle.domain_core.specs.definitions.runs.Stamps.{IsTickStamp, last_stamp, stamp_of_join}
use Rattle.std.proofs.lemmas.Bool.{cases_eq}
use Rattle.cell_core.specs.declared.moves.Joined.{Joined}
use Rattle.tick_log.specs.definitions.Runs.{RunState, history_of, join_of, tick_of, tick_count}
use Rattle.tick_log.specs.declared.history.JoinRow.{JoinRow}
use Rattle.domain_core.specs.definitions.runs.Systems.{Setup, sender_of, receiver_of, domain_count, channel_count, IsSystem}
use Rattle.domain_core.specs.definitions.runs.LegalRuns.{Fits, HasStamps, JoinsAt, IsJoinedAfter, tick_stamps}
use Rattle.domain_core.specs.definitions.runs.OwnRuns.{EndsLegally}
use Rattle.domain_core.specs.definitions.rounds.Rounds.{Offer, Rounds, found_at_offer, found_at_recall, or_else, join_found, IsFoundStamp, RecallsStanding, Found, found_entry, found_from, RoundsFit}
use Rattle.domain_core.proofs.lemmas.runs.StampRuleLemmas.{domain_of}
use Rattle.domain_core.proofs.lemmas.rounds.RoundFacts.{out_none}
use Rattle.domain_core.proofs.lemmas.rounds.RoundsRun.{sent_by, got_by, blank, not_both, domain_stands, channel_facts, rounds_have_own_runs}
use Rattle.domain_core.proofs.lemmas.runs.StampOrderCuts.{own_runs_are_legal}

abbrev pub AllAt : (Found → Type 0) → List Found → Type 0
AllAt Q [] = Unit {0}
AllAt Q (f ∷ fs) = Q f × AllAt Q fs

abbrev pub InFound : Found → List Found → Type 0
InFound f [] = ⊥
InFound f (g ∷ gs) = (f ≡ g) ⊎ InFound f gs

-- each found join is what its offer came to
unfoldable pub IsOut : Rounds → ℕ → Found → Type 0
IsOut x c f = (j : Joined) × (join_found (x.offers f.number) (x.recalls f.number) c ≡ Some j) × (f.stamp ≡ stamp_of_join j)

both_out : (Q : Found → Type 0) (n : ℕ) (o q : Option Joined) (rest : List Found) → (is_some o && is_some q) ≡ false →
    ((j : Joined) → or_else q o ≡ Some j → Q (record { number = n; value = j.value; stamp = stamp_of_join j })) → AllAt Q rest → AllAt Q (found_entry n o (found_entry n q rest))
both_out Q n None None rest b h a = a
both_out Q n (Some i) None rest b h a = (h i refl, a)
both_out Q n None (Some j) rest b h a = (h j refl, a)
both_out Q n (Some i) (Some j) rest b h a = cc

pub all_out : (x : Rounds) (c n left : ℕ) → ((n c : ℕ) → RecallsStanding (x.offers n c) (x.recalls n c)) → AllAt (IsOut x c) (found_from x c n left)
unfolding IsOut
all_out x c n zero s = tt
all_out x c n (suc left) s =
    both_out (IsOut x c) n (found_at_offer (x.offers n c)) (found_at_recall (x.recalls n c)) (found_from x c (suc n) left) (not_both (x.offers n c) (x.recalls n c) (s n c))
    (λ j e. (j, e, refl)) (all_out x c (suc n) left s)

all_at : (Q : Found → Type 0) (g : JoinRow → Found) (d : JoinRow) (rows : List JoinRow) (i : ℕ) → AllAt Q (map g rows) → i < length rows → Q (g (slice_index_or rows i d))
all_at Q g d [] i a h = absurd (omega arith)
all_at Q g d (row ∷ rows) zero a h = a.0
all_at Q g d (row ∷ rows) (suc i) a h = all_at Q g d rows i a.1 (omega arith)

-- and what an offer came to was found
in_here : (n : ℕ) (o q : Option Joined) (rest : List Found) (j : Joined) → or_else q o ≡ Some j →
    InFound (record { number = n; value = j.value; stamp = stamp_of_join j }) (found_entry n o (found_entry n q rest))
in_here n None None rest j e = cc
in_here n (Some i) None rest j e = let k : j ≡ i = cc in inl (ap (λ (z : Joined). record { number = n; value = z.value; stamp = stamp_of_join z }) k)
in_here n None (Some i) rest j e = let k : j ≡ i = cc in inl (ap (λ (z : Joined). record { number = n; value = z.value; stamp = stamp_of_join z }) k)
in_here n (Some h) (Some i) rest j e = let k : j ≡ i = cc in inr (inl (ap (λ (z : Joined). record { number = n; value = z.value; stamp = stamp_of_join z }) k))

in_more : (f : Found) (n : ℕ) (o : Option Joined) (rest : List Found) → InFound f rest → InFound f (found_entry n o rest)
in_more f n None rest h = h
in_more f n (Some j) rest h = inr h

pub in_found : (x : Rounds) (c m n left : ℕ) (j : Joined) → n ≤ m → m < n + left → join_found (x.offers m) (x.recalls m) c ≡ Some j →
    InFound (record { number = m; value = j.value; stamp = stamp_of_join j }) (found_from x c n left)
in_found x c m n zero j h k e = absurd (omega arith)
in_found x c m n (suc left) j h k e = elim (cases_eq n m) [
  | inl q ↦
      let P : ℕ → Type 0 = λ z. join_found (x.offers z) (x.recalls z) c ≡ Some j → InFound (record { number = z; value = j.value; stamp = stamp_of_join j }) (found_from x c n (suc left)) in
      subst P q (λ e2. in_here n (found_at_offer (x.offers n c)) (found_at_recall (x.recalls n c)) (found_from x c (suc n) left) j e2) e
  | inr q ↦
      in_more _ n (found_at_offer (x.offers n c)) _ (in_more _ n (found_at_recall (x.recalls n c)) _ (in_found x c m (suc n) left j (omega arith) (omega arith) e))
]

record AtRow (g : JoinRow → Found) (d : JoinRow) (rows : List JoinRow) (f : Found) : Type 0 where
  at : ℕ
  below : at < length rows
  is : f ≡ g (slice_index_or rows at d)

row_of_found : (g : JoinRow → Found) (d : JoinRow) (rows : List JoinRow) (f : Found) → InFound f (map g rows) → AtRow g d rows f
row_of_found g d [] f h = absurd h
row_of_found g d (row ∷ rows) f (inl h) = record { at = zero; below = omega arith; is = h }
row_of_found g d (row ∷ rows) f (inr h) = let k = row_of_found g d rows f h in let b = k.below in record { at = suc k.at; below = omega arith; is = k.is }

-- an offer came to a join only where it was made
pub was_offered : (o : Option Offer) (q : Option (Option Joined)) (j : Joined) → RecallsStanding o q → or_else (found_at_recall q) (found_at_offer o) ≡ Some j → (z : Offer) × (o ≡ Some z)
was_offered None q j s e = let k = ap (λ z. or_else (found_at_recall z) None) s in cc
was_offered (Some z) q j s e = (z, refl)

pub found_stamp : (p : Setup) (r : RunState) (rounds : ℕ → Rounds) (f : RoundsFit p r rounds) → IsSystem p → (d n c i : ℕ) → d < domain_count p → JoinsAt p r d n c i →
    (j : Joined) × (join_found ((rounds d).offers n) ((rounds d).recalls n) c ≡ Some j) × ((join_of r c i).stamp ≡ stamp_of_join j)
unfolding IsOut blank
found_stamp p r rounds f sys d n c i h a =
    let facts = channel_facts p r rounds f sys c a.channel in
    let sd = sender_of p c in
    let rd = receiver_of p c in
    let as_sender = all_at (IsOut (rounds sd) c) sent_by blank (history_of r c) i
    (subst (AllAt (IsOut (rounds sd) c)) (sym facts.sent) (all_out (rounds sd) c 1 (tick_count r sd) (domain_stands p r rounds f sd (sys.sender c a.channel)))) a.stands in
    let as_receiver = all_at (IsOut (rounds rd) c) got_by blank (history_of r c) i
    (subst (AllAt (IsOut (rounds rd) c)) (sym facts.got) (all_out (rounds rd) c 1 (tick_count r rd) (domain_stands p r rounds f rd (sys.receiver c a.channel)))) a.stands in
    elim a.number [
      | inl q ↦ (as_sender.0, ap (λ z. join_found ((rounds z).offers n) ((rounds z).recalls n) c) (sym q.0) ∙ ap (λ z. join_found ((rounds sd).offers z) ((rounds sd).recalls z) c) (sym q.1) ∙ as_sender.1, as_sender.2)
      | inr q ↦ (as_receiver.0, ap (λ z. join_found ((rounds z).offers n) ((rounds z).recalls n) c) (sym q.0) ∙ ap (λ z. join_found ((rounds rd).offers z) ((rounds rd).recalls z) c) (sym q.1) ∙ as_receiver.1, as_receiver.2)
    ]

end_of_offer : (p : Setup) (r : RunState) (rounds : ℕ → Rounds) (f : RoundsFit p r rounds) (d c : ℕ) (h : d < domain_count p) (n : ℕ) (z : Offer) → 1 ≤ n → n < 1 + tick_count r d →
    (rounds d).offers n c ≡ Some z →
    (c < channel_count p) × ((sender_of p c ≡ d) ⊎ (receiver_of p c ≡ d))
end_of_offer p r rounds f d c h zero z a b e = absurd (omega arith)
end_of_offer p r rounds f d c h (suc n) z a b e = ((f.domains d h).made.rounds n (omega arith)).offers_waiting.ends c z e

-- a join that was found stands in the history
pub found_row : (p : Setup) (r : RunState) (rounds : ℕ → Rounds) (f : RoundsFit p r rounds) → IsSystem p → (d n c : ℕ) (j : Joined) → d < domain_count p → 1 ≤ n → n < 1 + tick_count r d →
    join_found ((rounds d).offers n) ((rounds d).recalls n) c ≡ Some j →
    (i : ℕ) × JoinsAt p r d n c i × (stamp_of_join j ≡ (join_of r c i).stamp)
unfolding blank
found_row p r rounds f sys d n c j h a b e =
    let o = was_offered ((rounds d).offers n c) ((rounds d).recalls n c) j (domain_stands p r rounds f d h n c) e in
    let own = end_of_offer p r rounds f d c h n o.0 a b o.1 in
    let w = own.0 in
    let facts = channel_facts p r rounds f sys c w in
    let here = in_found (rounds d) c n 1 (tick_count r d) j a b e in
    elim own.1 [
      | inl q ↦
          let P : ℕ → Type 0 = λ z. InFound (record { number = n; value = j.value; stamp = stamp_of_join j }) (found_from (rounds z) c 1 (tick_count r z)) in
          let k = row_of_found sent_by blank (history_of r c) _ (subst (InFound (record { number = n; value = j.value; stamp = stamp_of_join j })) (sym facts.sent) (subst P (sym q) here)) in
          (k.at, record { channel = w; stands = k.below; number = inl (q, ap (λ (z : Found). z.number) (sym k.is)) }, ap (λ (z : Found). z.stamp) k.is)
      | inr q ↦
          let P : ℕ → Type 0 = λ z. InFound (record { number = n; value = j.value; stamp = stamp_of_join j }) (found_from (rounds z) c 1 (tick_count r z)) in
          let k = row_of_found got_by blank (history_of r c) _ (subst (InFound (record { number = n; value = j.value; stamp = stamp_of_join j })) (sym facts.got) (subst P (sym q) here)) in
          (k.at, record { channel = w; stands = k.below; number = inr (q, ap (λ (z : Found). z.number) (sym k.is)) }, ap (λ (z : Found). z.stamp) k.is)
    ]

-- the stamps of joins found after n ticks are those of the run's joins there
stamp_in_run : (p : Setup) (r : RunState) (rounds : ℕ → Rounds) (f : RoundsFit p r rounds) → IsSystem p → (d n s : ℕ) → d < domain_count p → n ≤ tick_count r d →
    IsFoundStamp ((rounds d).offers n) ((rounds d).recalls n) s → IsJoinedAfter p r d n s
stamp_in_run p r rounds f sys d zero s h k q =
    let none = out_none ((rounds d).offers 0 q.0) ((rounds d).recalls 0 q.0) (domain_stands p r rounds f d h 0 q.0) ((f.domains d h).made.none_before q.0) in
    let found = q.2 in
    cc
stamp_in_run p r rounds f sys d (suc n) s h k q =
    let row = found_row p r rounds f sys d (suc n) q.0 q.1 h (omega arith) (omega arith) q.2 in
    (q.0, row.0, row.1, q.3 ∙ row.2)

stamp_in_rounds : (p : Setup) (r : RunState) (rounds : ℕ → Rounds) (f : RoundsFit p r rounds) → IsSystem p → (d n s : ℕ) → d < domain_count p →
    IsJoinedAfter p r d n s → IsFoundStamp ((rounds d).offers n) ((rounds d).recalls n) s
stamp_in_rounds p r rounds f sys d n s h a =
    let k = found_stamp p r rounds f sys d n a.0 a.1 h a.2 in
    (a.0, k.0, k.1, a.3 ∙ k.2)

pub rounds_have_stamps : (p : Setup) (r : RunState) (rounds : ℕ → Rounds) (f : RoundsFit p r rounds) → IsSystem p → Fits p r → HasStamps p r
rounds_have_stamps p r rounds f sys fit =
    record {
      ticks = λ d n h.
          let l = domain_of r d n h in
          let e = fit.logs in
          let w : d < domain_count p = omega arith in
          let own : IsTickStamp (last_stamp (tick_stamps r d) n) (IsFoundStamp ((rounds d).offers n) ((rounds d).recalls n)) (tick_of r d n).stamp = ((f.domains d w).made.rounds n h).stamp in (
            own.0,
            own.1,
            record {
              least = own.2.least;
              joins = λ t a. own.2.joins t (stamp_in_rounds p r rounds f sys d n t w a);
              attained = elim own.2.attained [ inl q ↦ inl q | inr q ↦ inr (stamp_in_run p r rounds f sys d n own.0 w (omega arith) q) ];
            },
          );
      joins = λ c i w h.
          let s = (channel_facts p r rounds f sys c w).stamps i h in
          record {
            sender = s.sender.0;
            receiver = s.receiver.0;
            sender_number = s.sender.1;
            receiver_number = s.receiver.1;
            sender_stands = s.sender.2;
            receiver_stands = s.receiver.2;
            stamp = s.stamp ∙ ap (λ z. suc (max z s.receiver_stamp)) (sym s.sender.3) ∙ ap (λ z. suc (max (tick_of r (sender_of p c) s.sender.0).stamp z)) (sym s.receiver.3);
          };
    }

pub rounds_are_legal : (p : Setup) (r : RunState) (rounds : ℕ → Rounds) (f : RoundsFit p r rounds) → (sys : IsSystem p) (fit : Fits p r) →
    EndsLegally p r (rounds_have_own_runs p r rounds f sys fit)
rounds_are_legal p r rounds f sys fit = own_runs_are_legal p r sys fit (rounds_have_stamps p r rounds f sys fit) (rounds_have_own_runs p r rounds f sys fit)
