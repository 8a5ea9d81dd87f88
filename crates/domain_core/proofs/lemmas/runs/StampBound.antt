-- Stamps have no gaps, so none is larger than the number of events.
use Rattle.std.proofs.Common.{◌≡◌, ℕ, zero, suc, ◌+◌, ◌<◌, ◌≤◌, List, [], ◌∷◌, length, refl, sym, ap, ◌∙◌, subst, inl, inr, arith, ◌⊎◌}
use Rattle.std.specs.Prelude.{max}
use Rattle.std.proofs.lemmas.Bool.{cases_lt}
use Rattle.domain_core.specs.definitions.runs.Systems.{Setup, sender_of, receiver_of, IsSystem, channel_count}
use Rattle.tick_log.specs.definitions.Runs.{RunState, tick_count, tick_of}
use Rattle.tick_log.specs.definitions.StampOrder.{Event, TickOf, JoinOf, IsEventOf, IsIn, Ascends, stamp_of}
use Rattle.domain_core.specs.definitions.runs.LegalRuns.{IsJoinedAfter, tick_stamps, HasStamps, Fits}
use Rattle.domain_core.specs.definitions.runs.StampBound.{IsCause, HasCause, CausesFirst, StampsWithin, event_count, IsNextStamp}
use Rattle.domain_core.specs.definitions.runs.Stamps.{IsTickStamp, last_stamp}
use Rattle.domain_core.proofs.lemmas.runs.StampOrders.{has_order, has_order-length}
use Rattle.domain_core.proofs.lemmas.runs.StampRuleLemmas.{none_joined, first_stamp, later_stamp, ticks_rise, join_after_sender, join_after_receiver, tick_after_join, before_stamp, channel_of, domain_of}

greater_is : (a b : ℕ) → (max a b ≡ a) ⊎ (max a b ≡ b)
greater_is a b = elim (cases_lt a b) [ inl h ↦ inr (omega arith) | inr h ↦ inl (omega arith) ]

pub has_cause : (p : Setup) (r : RunState) → IsSystem p → Fits p r → HasStamps p r → (e : Event) → IsEventOf r e → (stamp_of r e ≡ 1) ⊎ HasCause p r e
has_cause p r y f s (TickOf d zero) h = inl (first_stamp p r s d h.1)
has_cause p r y f s (TickOf d (suc n)) h =
    let next = later_stamp p r s d n h.1 in
    elim next.2.attained [
      | inl e ↦ inr (record { cause = TickOf d n; event = (h.0, omega arith); is = (refl, refl); stamp = next.1 ∙ ap suc e })
      | inr e ↦ let j = e.2 in let w = j.channel in let fit = f.histories in
          inr (record { cause = JoinOf e.0 e.1; event = (omega arith, j.stands); is = (omega arith, j); stamp = next.1 ∙ ap suc e.3 })
    ]
has_cause p r y f s (JoinOf c i) h =
    let fit = f.histories in
    let fitl = f.logs in
    let w : c < channel_count p = omega arith in
    let ws = y.sender c w in
    let wr = y.receiver c w in
    let j = s.joins c i w h.1 in
    elim (greater_is (tick_of r (sender_of p c) j.sender).stamp (tick_of r (receiver_of p c) j.receiver).stamp) [
      | inl e ↦ inr (record { cause = TickOf (sender_of p c) j.sender; event = (omega arith, j.sender_stands); is = inl (refl, j.sender_number); stamp = j.stamp ∙ ap suc e })
      | inr e ↦ inr (record { cause = TickOf (receiver_of p c) j.receiver; event = (omega arith, j.receiver_stands); is = inr (refl, j.receiver_number); stamp = j.stamp ∙ ap suc e })
    ]

-- in a list in which causes come first
within : (p : Setup) (r : RunState) → IsSystem p → Fits p r → HasStamps p r → (passed order : List Event) (n : ℕ) → ((f : Event) → IsIn f passed → stamp_of r f ≤ n) →
    CausesFirst p r passed order → StampsWithin r (suc n) order
within p r y f s passed [] n h c = tt
within p r y f s passed (e ∷ es) n h c =
    let low : stamp_of r e ≤ suc n = elim (has_cause p r y f s e c.0) [ inl q ↦ omega arith | inr q ↦ let k = h q.cause (c.1 q.cause q.event q.is) in let k2 = q.stamp in omega arith ] in
    (low, within p r y f s (e ∷ passed) es (suc n) (λ g i. elim i [ inl q ↦ let k = ap (stamp_of r) q in omega arith | inr q ↦ let k = h g q in omega arith ]) c.2)

pub stamps_within : (p : Setup) (r : RunState) → IsSystem p → Fits p r → HasStamps p r → (order : List Event) → CausesFirst p r [] order → StampsWithin r 1 order
stamps_within p r y f s order c = within p r y f s [] order 0 (λ g i. absurd i) c

-- causes have smaller stamps
cause_before : (p : Setup) (r : RunState) → Fits p r → HasStamps p r → (f e : Event) → IsEventOf r f → IsEventOf r e → IsCause p r f e → stamp_of r f < stamp_of r e
cause_before p r f s (TickOf d m) (TickOf e n) hf he c =
    let x = ticks_rise p r s e m n (let q = c.1 in omega arith) he.1 in
    subst (λ k. (tick_of r k m).stamp < (tick_of r e n).stamp) (sym c.0) x
cause_before p r f s (JoinOf b i) (TickOf d n) hf he c = tick_after_join p r s d n b i he.1 c.0 c.1
cause_before p r f s (TickOf d m) (JoinOf b i) hf he (inl c) =
    let fit = f.histories in
    let j = s.joins b i (omega arith) he.1 in
    let x = join_after_sender p r b i j in
    let n1 = j.sender_number in
    let n2 = c.1 in
    let e : j.sender ≡ m = omega arith in
    let k : (tick_of r (sender_of p b) j.sender).stamp ≡ (tick_of r d m).stamp = ap (λ z. (tick_of r z j.sender).stamp) (sym c.0) ∙ ap (λ z. (tick_of r d z).stamp) e in
    omega arith
cause_before p r f s (TickOf d m) (JoinOf b i) hf he (inr c) =
    let fit = f.histories in
    let j = s.joins b i (omega arith) he.1 in
    let x = join_after_receiver p r b i j in
    let n1 = j.receiver_number in
    let n2 = c.1 in
    let e : j.receiver ≡ m = omega arith in
    let k : (tick_of r (receiver_of p b) j.receiver).stamp ≡ (tick_of r d m).stamp = ap (λ z. (tick_of r z j.receiver).stamp) (sym c.0) ∙ ap (λ z. (tick_of r d z).stamp) e in
    omega arith
cause_before p r f s (JoinOf b i) (JoinOf c k) hf he q = absurd q

sorted_causes : (p : Setup) (r : RunState) → Fits p r → HasStamps p r → (passed order : List Event) → Ascends r order → ((f : Event) → IsIn f order → IsEventOf r f) →
    ((f : Event) → IsEventOf r f → IsIn f passed ⊎ IsIn f order) → CausesFirst p r passed order
sorted_causes p r f s passed [] a v h = tt
sorted_causes p r f s passed (e ∷ es) a v h =
    let ev = v e (inl refl) in (
      ev,
      (λ g w c.
          let low = cause_before p r f s g e w ev c in
          elim (h g w) [
            | inl i ↦ i
            | inr i ↦ elim i [ inl q ↦ let k = ap (stamp_of r) q in absurd (omega arith) | inr i ↦ let k = before_stamp r e g (a.0 g i) in absurd (omega arith) ]
          ]),
      sorted_causes p r f s (e ∷ passed) es a.1 (λ g i. v g (inr i))
          (λ g w. elim (h g w) [ inl i ↦ inl (inr i) | inr i ↦ elim i [ inl q ↦ inl (inl q) | inr i ↦ inr i ] ]),
    )

by_length : (r : RunState) (n : ℕ) (order : List Event) (e : Event) → StampsWithin r (suc n) order → IsIn e order → stamp_of r e ≤ n + length order
by_length r n [] e w i = absurd i
by_length r n (f ∷ fs) e w (inl q) = let k = ap (stamp_of r) q in let k2 = w.0 in omega arith
by_length r n (f ∷ fs) e w (inr i) = let k = by_length r (suc n) fs e w.1 i in omega arith

-- no stamp is larger than the number of ticks and joins
pub stamp_within_count : (p : Setup) (r : RunState) → IsSystem p → Fits p r → HasStamps p r → (e : Event) → IsEventOf r e → stamp_of r e ≤ event_count r
stamp_within_count p r y f s e h =
    let o = has_order r in
    let c = sorted_causes p r f s [] o.0 o.1.ascends (λ g i. (o.1.all g).0 i) (λ g w. inr ((o.1.all g).1 w)) in
    let k = by_length r 0 o.0 e (stamps_within p r y f s o.0 c) ((o.1.all e).1 h) in
    let l = has_order-length r in
    omega arith

-- the next tick of a domain has a stamp of at most one more
next_within : (p : Setup) (r : RunState) → IsSystem p → Fits p r → HasStamps p r → (d n k : ℕ) → tick_count r d ≡ n →
    IsTickStamp (last_stamp (tick_stamps r d) n) (IsJoinedAfter p r d n) k → k ≤ suc (event_count r)
next_within p r y f s d zero k e h =
    let q = h.1 in
    elim h.2.attained [ inl a ↦ omega arith | inr a ↦ absurd (none_joined p r d a.0 a.1 (s.joins a.0 a.1 a.2.channel a.2.stands) a.2) ]
next_within p r y f s d (suc n) k e h =
    let q = h.1 in
    elim h.2.attained [
      | inl a ↦
          let l : n < tick_count r d = omega arith in
          let low = stamp_within_count p r y f s (TickOf d n) (domain_of r d n l, l) in
          omega arith
      | inr a ↦
          let j = a.2 in
          let low = stamp_within_count p r y f s (JoinOf a.0 a.1) (channel_of r a.0 a.1 j.stands, j.stands) in
          let same = a.3 in
          omega arith
    ]

pub next_stamp_within : (p : Setup) (r : RunState) → IsSystem p → Fits p r → HasStamps p r → (d k : ℕ) → IsNextStamp p r d k → k ≤ suc (event_count r)
next_stamp_within p r y f s d k h = next_within p r y f s d (tick_count r d) k refl h
