-- Stamps that are given step by step are those of the rule.
use Rattle.std.proofs.Common.{◌≡◌, ◌≢◌, ℕ, zero, suc, ◌<◌, ◌≤◌, List, [], ◌∷◌, refl, sym, ap, ◌∙◌, subst, inl, inr, arith, ◌⊎◌}
use Rattle.std.specs.Prelude.{max}
use Rattle.std.proofs.lemmas.Bool.{cases_lt, cases_eq}
use Rattle.domain_core.specs.definitions.runs.Systems.{WaitsToSend, WaitsToReceive, Setup, SystemState, Move, MakesTick, MakesJoin, Steps, start, start_of, sender_of, receiver_of, IsSystem, IsFresh, channel_count}
use Rattle.kernel_rules.specs.definitions.LegalTick.{DomainState}
use Rattle.kernel_rules.specs.definitions.Signals.{put_at}
use Rattle.tick_log.specs.definitions.Runs.{RunState, tick_count, join_count, tick_of, join_of}
use Rattle.domain_core.specs.definitions.runs.LegalRuns.{IsJoinStamp, HasStamps, Fits}
use Rattle.domain_core.specs.definitions.runs.OwnRuns.{sender_ticks_at, receiver_ticks_at}
use Rattle.domain_core.specs.definitions.runs.Scheduled.{TellsFrom, IsRunOf}
use Rattle.domain_core.specs.runs.StampsByStep.{StampsFrom, raised_at}
use Rattle.domain_core.proofs.lemmas.runs.StatesBetweenTicks.{put_here, put_apart, put_cases, put_more, one_more}
use Rattle.domain_core.proofs.lemmas.runs.StampRuleLemmas.{has_stamps}
use Rattle.domain_core.proofs.lemmas.runs.AnyOrder.{SoFar, with_tick, tick_so_far, join_so_far, at_start, place_cases}

-- one of the first j c joins of channel c, of domain d after n ticks
pub record JoinedAt (p : Setup) (r : RunState) (j : ℕ → ℕ) (d n c i : ℕ) : Type 0 where
  pub channel : c < channel_count p
  pub stands : i < j c
  pub number : ((sender_of p c ≡ d) × (sender_ticks_at r c i ≡ n)) ⊎ ((receiver_of p c ≡ d) × (receiver_ticks_at r c i ≡ n))

pub record Greatest (p : Setup) (r : RunState) (j : ℕ → ℕ) (d n stamp s : ℕ) : Type 0 where
  pub least : stamp ≤ s
  pub joins : (c i : ℕ) → JoinedAt p r j d n c i → (join_of r c i).stamp ≤ s
  pub attained : (s ≡ stamp) ⊎ ((c : ℕ) × (i : ℕ) × JoinedAt p r j d n c i × (s ≡ (join_of r c i).stamp))

pub record StampsSoFar (p : Setup) (r : RunState) (t j last since : ℕ → ℕ) : Type 0 where
  pub last_is : (d n : ℕ) → t d ≡ suc n → last d ≡ (tick_of r d n).stamp
  pub none_yet : (d : ℕ) → t d ≡ 0 → since d ≡ 0
  pub since_is : (d : ℕ) → Greatest p r j d (t d) (last d) (since d)
  pub first : (d : ℕ) → 0 < t d → (tick_of r d 0).stamp ≡ 1
  pub later : (d n : ℕ) → suc n < t d → (s : ℕ) × ((tick_of r d (suc n)).stamp ≡ suc s) × Greatest p r j d (suc n) (tick_of r d n).stamp s
  pub joins : (c i : ℕ) → c < channel_count p → i < j c → IsJoinStamp p r c (join_of r c i)
  pub within : (d : ℕ) → t d ≤ tick_count r d

-- a tick: no join yet has its number
tick_stamped : (p : Setup) (r : RunState) (after : ℕ → ℕ → DomainState) (t j last since : ℕ → ℕ) (s : SystemState) (d : ℕ) → SoFar p r after t j s → StampsSoFar p r t j last since →
    t d < tick_count r d → (tick_of r d (t d)).stamp ≡ suc (since d) → StampsSoFar p r (put_at t d (suc (t d))) j (put_at last d (suc (since d))) (put_at since d (suc (since d)))
tick_stamped p r after t j last since s d a b room e =
    let fresh : (c i : ℕ) → JoinedAt p r j d (suc (t d)) c i → ⊥ = λ c i k. elim k.number [
      | inl q ↦ let v = a.sender_within c i k.stands in let v2 = ap t q.0 in let v3 = q.1 in omega arith
      | inr q ↦ let v = a.receiver_within c i k.stands in let v2 = ap t q.0 in let v3 = q.1 in omega arith
    ] in
    record {
      last_is = λ x n h. elim (put_cases t d (suc (t d)) x) [
        | inl (q, u) ↦
            let m : n ≡ t d = omega arith in
            ap (put_at last d (suc (since d))) q ∙ put_here last d (suc (since d)) ∙ sym e ∙ ap (λ z. (tick_of r d z).stamp) (sym m) ∙ ap (λ z. (tick_of r z n).stamp) (sym q)
        | inr (q, u) ↦ put_apart last d (suc (since d)) x q ∙ b.last_is x n (sym u ∙ h)
      ];
      none_yet = λ x h. elim (put_cases t d (suc (t d)) x) [
        | inl (q, u) ↦ absurd (omega arith)
        | inr (q, u) ↦ put_apart since d (suc (since d)) x q ∙ b.none_yet x (sym u ∙ h)
      ];
      since_is = λ x. elim (put_cases t d (suc (t d)) x) [
        | inl (q, u) ↦
            let lq : put_at last d (suc (since d)) x ≡ suc (since d) = ap (put_at last d (suc (since d))) q ∙ put_here last d (suc (since d)) in
            let sq : put_at since d (suc (since d)) x ≡ suc (since d) = ap (put_at since d (suc (since d))) q ∙ put_here since d (suc (since d)) in
            let here : Greatest p r j d (suc (t d)) (suc (since d)) (suc (since d)) = record { least = omega arith; joins = λ c i k. absurd (fresh c i k); attained = inl refl } in
            subst (λ z. Greatest p r j x (put_at t d (suc (t d)) x) (put_at last d (suc (since d)) x) z) (sym sq)
            (subst (λ z. Greatest p r j x (put_at t d (suc (t d)) x) z (suc (since d))) (sym lq)
            (subst (λ z. Greatest p r j x z (suc (since d)) (suc (since d))) (sym u)
            (subst (λ z. Greatest p r j z (suc (t d)) (suc (since d)) (suc (since d))) (sym q) here)))
        | inr (q, u) ↦
            subst (λ z. Greatest p r j x (put_at t d (suc (t d)) x) (put_at last d (suc (since d)) x) z) (sym (put_apart since d (suc (since d)) x q))
            (subst (λ z. Greatest p r j x (put_at t d (suc (t d)) x) z (since x)) (sym (put_apart last d (suc (since d)) x q))
            (subst (λ z. Greatest p r j x z (last x) (since x)) (sym u) (b.since_is x)))
      ];
      first = λ x h. elim (cases_eq (t x) 0) [
        | inl z ↦ elim (put_cases t d (suc (t d)) x) [
          | inl (q, u) ↦
              let td : t d ≡ 0 = ap t (sym q) ∙ z in
              ap (λ y. (tick_of r y 0).stamp) q ∙ ap (λ y. (tick_of r d y).stamp) (sym td) ∙ e ∙ ap suc (b.none_yet d td)
          | inr (q, u) ↦ absurd (omega arith)
        ]
        | inr z ↦ b.first x (omega arith)
      ];
      later = λ x n h. elim (cases_lt (suc n) (t x)) [
        | inl l ↦ b.later x n l
        | inr l ↦ elim (put_cases t d (suc (t d)) x) [
          | inl (q, u) ↦
              let tx = ap t q in
              let m : t d ≡ suc n = omega arith in
              let here : Greatest p r j d (suc n) (tick_of r d n).stamp (since d) =
              subst (λ z. Greatest p r j d (suc n) z (since d)) (b.last_is d n m) (subst (λ z. Greatest p r j d z (last d) (since d)) m (b.since_is d)) in
              let P : ℕ → Type 0 = λ z. (w : ℕ) × ((tick_of r z (suc n)).stamp ≡ suc w) × Greatest p r j z (suc n) (tick_of r z n).stamp w in
              subst P (sym q) (since d, ap (λ z. (tick_of r d z).stamp) (sym m) ∙ e, here)
          | inr (q, u) ↦ absurd (omega arith)
        ]
      ];
      joins = b.joins;
      within = λ x. elim (put_cases t d (suc (t d)) x) [
        | inl (q, u) ↦ let v = ap (tick_count r) q in omega arith
        | inr (q, u) ↦ let v = b.within x in omega arith
      ];
    }

-- what is there of a join more
one_more_joined : (p : Setup) (r : RunState) (j : ℕ → ℕ) (c d n b i : ℕ) → JoinedAt p r (one_more j c) d n b i → JoinedAt p r j d n b i ⊎ ((b ≡ c) × (i ≡ j c))
one_more_joined p r j c d n b i k = elim (place_cases j c b i k.stands) [
  | inl l ↦ inl (record { channel = k.channel; stands = l; number = k.number })
  | inr l ↦ inr l
]

kept_joined : (p : Setup) (r : RunState) (j : ℕ → ℕ) (c d n b i : ℕ) → JoinedAt p r j d n b i → JoinedAt p r (one_more j c) d n b i
kept_joined p r j c d n b i k = let v = put_more j c b in let v2 = k.stands in record { channel = k.channel; stands = omega arith; number = k.number }

-- a join that isn't of this domain and number
greatest_kept : (p : Setup) (r : RunState) (j : ℕ → ℕ) (c d n stamp s : ℕ) → (JoinedAt p r (one_more j c) d n c (j c) → ⊥) → Greatest p r j d n stamp s → Greatest p r (one_more j c) d n stamp s
greatest_kept p r j c d n stamp s not_it g =
    record {
      least = g.least;
      joins = λ b i k. elim (one_more_joined p r j c d n b i k) [
        | inl l ↦ g.joins b i l
        | inr (q, u) ↦ absurd (not_it (subst (λ z. JoinedAt p r (one_more j c) d n c z) u (subst (λ z. JoinedAt p r (one_more j c) d n z i) q k)))
      ];
      attained = elim g.attained [ inl l ↦ inl l | inr k ↦ inr (k.0, k.1, kept_joined p r j c d n k.0 k.1 k.2, k.3) ];
    }

-- a join that is
greatest_more : (p : Setup) (r : RunState) (j : ℕ → ℕ) (c d n stamp s x : ℕ) → x ≡ (join_of r c (j c)).stamp → JoinedAt p r (one_more j c) d n c (j c) → Greatest p r j d n stamp s →
    Greatest p r (one_more j c) d n stamp (max s x)
greatest_more p r j c d n stamp s x e it g =
    record {
      least = let l = g.least in omega arith;
      joins = λ b i k. elim (one_more_joined p r j c d n b i k) [
        | inl l ↦ let v = g.joins b i l in omega arith
        | inr (q, u) ↦ let v = ap (λ z. (join_of r z i).stamp) q in let v2 = ap (λ z. (join_of r c z).stamp) u in omega arith
      ];
      attained = elim (cases_lt s x) [
        | inl l ↦ let m : max s x ≡ x = omega arith in inr (c, j c, it, m ∙ e)
        | inr l ↦ let m : max s x ≡ s = omega arith in elim g.attained [ inl q ↦ inl (m ∙ q) | inr k ↦ inr (k.0, k.1, kept_joined p r j c d n k.0 k.1 k.2, m ∙ k.3) ]
      ];
    }

one_before : (n : ℕ) → 0 < n → (a : ℕ) × (n ≡ suc a)
one_before zero h = absurd (omega arith)
one_before (suc n) h = (n, refl)

-- a join: both domains have made a tick, since no statement of the program waits
join_stamped : (p : Setup) (r : RunState) (after : ℕ → ℕ → DomainState) (t j last since : ℕ → ℕ) (new : SystemState) (c : ℕ) → IsSystem p → IsFresh p → c < channel_count p →
    SoFar p r after t (one_more j c) new → sender_ticks_at r c (j c) ≡ t (sender_of p c) → receiver_ticks_at r c (j c) ≡ t (receiver_of p c) → StampsSoFar p r t j last since →
    (join_of r c (j c)).stamp ≡ suc (max (last (sender_of p c)) (last (receiver_of p c))) →
    StampsSoFar p r t (one_more j c) last
    (raised_at (raised_at since (sender_of p c) (suc (max (last (sender_of p c)) (last (receiver_of p c))))) (receiver_of p c) (suc (max (last (sender_of p c)) (last (receiver_of p c)))))
join_stamped p r after t j last since new c sys fresh w a ns nr b e =
    let sd = sender_of p c in
    let rd = receiver_of p c in
    let x = suc (max (last sd) (last rd)) in
    let here : j c < one_more j c c = let v = put_here j c (suc (j c)) in omega arith in
    let sends = a.sends c (j c) w here in
    let receives = a.receives c (j c) w here in
    let ts : 0 < t sd = elim (cases_lt 0 (t sd)) [
      | inl l ↦ l
      | inr l ↦
          let z : sender_ticks_at r c (j c) ≡ 0 = omega arith in
          absurd (fresh.sends sd c _ (subst (λ y. WaitsToSend c ((join_of r c (j c)).value) y.statement) (ap (after sd) z ∙ a.begins sd (sys.sender c w)) sends))
    ] in
    let tr : 0 < t rd = elim (cases_lt 0 (t rd)) [
      | inl l ↦ l
      | inr l ↦
          let z : receiver_ticks_at r c (j c) ≡ 0 = omega arith in
          absurd (fresh.receives rd c (subst (λ y. WaitsToReceive c y.statement) (ap (after rd) z ∙ a.begins rd (sys.receiver c w)) receives))
    ] in
    let apart = sys.apart c w in
    let back : rd ≢ sd = λ q. apart (sym q) in
    let at_s : JoinedAt p r (one_more j c) sd (t sd) c (j c) = record { channel = w; stands = here; number = inl (refl, ns) } in
    let at_r : JoinedAt p r (one_more j c) rd (t rd) c (j c) = record { channel = w; stands = here; number = inr (refl, nr) } in
    record {
      last_is = b.last_is;
      none_yet = λ d h. elim (put_cases (raised_at since sd x) rd (max (raised_at since sd x rd) x) d) [
        | inl (q, u) ↦ let v = ap t q in absurd (omega arith)
        | inr (q, u) ↦ elim (put_cases since sd (max (since sd) x) d) [
          | inl (q2, u2) ↦ let v = ap t q2 in absurd (omega arith)
          | inr (q2, u2) ↦ u ∙ u2 ∙ b.none_yet d h
        ]
      ];
      since_is = λ d. elim (put_cases (raised_at since sd x) rd (max (raised_at since sd x rd) x) d) [
        | inl (q, u) ↦
            let v = u ∙ ap (λ z. max z x) (put_apart since sd (max (since sd) x) rd back) in
            let g = greatest_more p r j c rd (t rd) (last rd) (since rd) x (sym e) at_r (b.since_is rd) in
            subst (λ z. Greatest p r (one_more j c) d (t d) (last d) z) (sym v) (subst (λ z. Greatest p r (one_more j c) z (t z) (last z) (max (since rd) x)) (sym q) g)
        | inr (q, u) ↦ elim (put_cases since sd (max (since sd) x) d) [
          | inl (q2, u2) ↦
              let g = greatest_more p r j c sd (t sd) (last sd) (since sd) x (sym e) at_s (b.since_is sd) in
              subst (λ z. Greatest p r (one_more j c) d (t d) (last d) z) (sym (u ∙ u2)) (subst (λ z. Greatest p r (one_more j c) z (t z) (last z) (max (since sd) x)) (sym q2) g)
          | inr (q2, u2) ↦
              subst (λ z. Greatest p r (one_more j c) d (t d) (last d) z) (sym (u ∙ u2))
              (greatest_kept p r j c d (t d) (last d) (since d) (λ k. elim k.number [ inl y ↦ q2 (sym y.0) | inr y ↦ q (sym y.0) ]) (b.since_is d))
        ]
      ];
      first = b.first;
      later = λ d n h.
          let g = b.later d n h in (
            g.0,
            g.1,
            greatest_kept p r j c d (suc n) (tick_of r d n).stamp g.0
                (λ k. elim k.number [
                  | inl y ↦ let v = ap t y.0 in let v2 = y.1 in omega arith
                  | inr y ↦ let v = ap t y.0 in let v2 = y.1 in omega arith
                ]) g.2,
          );
      joins = λ y i h k. elim (place_cases j c y i k) [
        | inl l ↦ b.joins y i h l
        | inr (q, u) ↦
            let ks = one_before (t sd) ts in
            let kr = one_before (t rd) tr in
            let made : IsJoinStamp p r c (join_of r c (j c)) = record {
              sender = ks.0;
              receiver = kr.0;
              sender_number = ns ∙ ks.1;
              receiver_number = nr ∙ kr.1;
              sender_stands = let v = b.within sd in let v2 = ks.1 in omega arith;
              receiver_stands = let v = b.within rd in let v2 = kr.1 in omega arith;
              stamp = e ∙ ap (λ z. suc (max z (last rd))) (b.last_is sd ks.0 ks.1) ∙ ap (λ z. suc (max (tick_of r sd ks.0).stamp z)) (b.last_is rd kr.0 kr.1);
            } in
            subst (λ z. IsJoinStamp p r z (join_of r z i)) (sym q) (subst (λ z. IsJoinStamp p r c (join_of r c z)) (sym u) made)
      ];
      within = b.within;
    }

record Stamped (p : Setup) (r : RunState) : Type 0 where
  t : ℕ → ℕ
  j : ℕ → ℕ
  last : ℕ → ℕ
  since : ℕ → ℕ
  so_far : StampsSoFar p r t j last since
  ticks : (d : ℕ) → t d ≡ tick_count r d
  joins : (c : ℕ) → j c ≡ join_count r c

to_end_stamped : (p : Setup) (r : RunState) (after : ℕ → ℕ → DomainState) (t j last since : ℕ → ℕ) (s : SystemState) (moves : List Move) (end : SystemState) → IsSystem p → IsFresh p →
    SoFar p r after t j s → StampsSoFar p r t j last since → Steps p s moves end → TellsFrom r t j moves → StampsFrom p r t j last since moves → Stamped p r
to_end_stamped p r after t j last since s [] end sys fresh a b steps tells stamps = record { t = t; j = j; last = last; since = since; so_far = b; ticks = tells.0; joins = tells.1 }
to_end_stamped p r after t j last since s (MakesTick d statuses ∷ moves) end sys fresh a b steps tells stamps =
    let step = steps.1.1 in
    let next = tick_so_far p r after t j s d statuses step.after a steps.1.0 step.legal tells.1 in
    to_end_stamped p r (with_tick after t d step.after) (put_at t d (suc (t d))) j (put_at last d (suc (since d))) (put_at since d (suc (since d))) steps.0 moves end sys fresh
    (subst (SoFar p r (with_tick after t d step.after) (put_at t d (suc (t d))) j) (sym step.next) next)
    (tick_stamped p r after t j last since s d a b tells.0 stamps.0) steps.2 tells.2 stamps.1
to_end_stamped p r after t j last since s (MakesJoin c join ∷ moves) end sys fresh a b steps tells stamps =
    let w = steps.1.0 in
    let step = steps.1.1 in
    let next = join_so_far p r after t j s steps.0 c join sys a w step tells.1 in
    let ns : sender_ticks_at r c (j c) ≡ t (sender_of p c) = ap (λ x. x.sender_ticks) tells.1 ∙ step.sender_ticks ∙ a.counts (sender_of p c) (sys.sender c w) in
    let nr : receiver_ticks_at r c (j c) ≡ t (receiver_of p c) = ap (λ x. x.receiver_ticks) tells.1 ∙ step.receiver_ticks ∙ a.counts (receiver_of p c) (sys.receiver c w) in
    to_end_stamped p r after t (one_more j c) last _ steps.0 moves end sys fresh next (join_stamped p r after t j last since steps.0 c sys fresh w next ns nr b stamps.0) steps.2 tells.2 stamps.1

pub steps_have_stamps : (p : Setup) (r : RunState) (moves : List Move) (end : SystemState) → IsSystem p → IsFresh p → Fits p r → IsRunOf p r moves end →
    StampsFrom p r (λ d. 0) (λ c. 0) (λ d. 0) (λ d. 0) moves → HasStamps p r
steps_have_stamps p r moves end sys fresh fit run stamps =
    let begin : StampsSoFar p r (λ d. 0) (λ c. 0) (λ d. 0) (λ d. 0) = record {
      last_is = λ d n h. absurd (omega arith);
      none_yet = λ d h. refl;
      since_is = λ d. record { least = omega arith; joins = λ c i k. let v = k.stands in absurd (omega arith); attained = inl refl };
      first = λ d h. absurd (omega arith);
      later = λ d n h. absurd (omega arith);
      joins = λ c i h k. absurd (omega arith);
      within = λ d. omega arith;
    } in
    let x = to_end_stamped p r (λ d n. start_of p d) (λ d. 0) (λ c. 0) (λ d. 0) (λ d. 0) (start p) moves end sys fresh (at_start p r) begin run.steps run.tells stamps in
    let b = x.so_far in
    has_stamps p r (λ d h. b.first d (let v = x.ticks d in omega arith))
    (λ d n h.
    let g = b.later d n (let v = x.ticks d in omega arith) in (
      g.0,
      g.1,
      record {
        least = g.2.least;
        joins = λ u k.
            let low = g.2.joins k.0 k.1 (record { channel = k.2.channel; stands = let v = x.joins k.0 in let v2 = k.2.stands in omega arith; number = k.2.number }) in
            let e = k.3 in
            omega arith;
        attained = elim g.2.attained [
          | inl q ↦ inl q
          | inr k ↦ inr (k.0, k.1, record { channel = k.2.channel; stands = let v = x.joins k.0 in let v2 = k.2.stands in omega arith; number = k.2.number }, k.3)
        ];
      },
    ))
    (λ c i h k. b.joins c i h (let v = x.joins c in omega arith))
