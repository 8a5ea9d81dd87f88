-- Steps in any order give each domain its own run.
use Rattle.std.proofs.Common.{◌≡◌, ◌≢◌, ℕ, suc, ◌<◌, ◌≤◌, Bool, false, List, [], ◌∷◌, refl, sym, ap, ◌∙◌, subst, inl, inr, arith, ◌⊎◌}
use Rattle.std.specs.Prelude.{◌==◌, ◌&&◌, Option, ℤ}
use Rattle.std.proofs.lemmas.Bool.{cases_lt, and_cases, eqb-false}
use Rattle.domain_core.specs.definitions.runs.Systems.{WaitsToSend, WaitsToReceive, Setup, JoinRecord, SystemState, start, start_of, sender_of, receiver_of, with_found, only, Move, MakesTick, MakesJoin, JoinStep, Steps, IsSystem, domain_count, channel_count}
use Rattle.kernel_rules.specs.definitions.LegalTick.{DomainState, IsLegalTick}
use Rattle.kernel_rules.specs.definitions.Signals.{put_at}
use Rattle.tick_log.specs.definitions.Runs.{RunState, tick_count, join_count, tick_of, join_of}
use Rattle.domain_core.specs.definitions.runs.LegalRuns.{HasStamps, Fits, record_of}
use Rattle.domain_core.specs.definitions.runs.OwnRuns.{sender_ticks_at, receiver_ticks_at, value_at, own_ticks_at, found_after, with_joins, OwnRunsTo}
use Rattle.domain_core.specs.definitions.runs.Scheduled.{TellsFrom, IsRunOf, IsLegalTo}
use Rattle.domain_core.proofs.lemmas.runs.FoundJoins.{found_waited_to_send, found_waited_to_receive}
use Rattle.domain_core.proofs.lemmas.runs.StatesBetweenTicks.{put_here, put_apart, put_cases, put_more, beside_absent, own_sender, own_receiver, joins_same, joins_none, one_more, joined_domains}
use Rattle.domain_core.proofs.lemmas.runs.StampOrderCuts.{own_runs_are_legal}

-- after t d ticks of each domain and j c joins of each channel, with the states that the domains had right after their ticks
pub record SoFar (p : Setup) (r : RunState) (after : ℕ → ℕ → DomainState) (t j : ℕ → ℕ) (s : SystemState) : Type 0 where
  pub begins : (d : ℕ) → d < domain_count p → after d 0 ≡ start_of p d
  pub ticks : (d n : ℕ) → d < domain_count p → n < t d → IsLegalTick p.tables p.inputs d (with_joins p r d n j (after d n)) (tick_of r d n).statuses (after d (suc n))
  pub counts : (d : ℕ) → d < domain_count p → (s.domain d).ticks ≡ t d
  pub domains : (d : ℕ) → d < domain_count p → s.domain d ≡ with_joins p r d (t d) j (after d (t d))
  pub sends : (c i : ℕ) → c < channel_count p → i < j c → WaitsToSend c (value_at r c i) (after (sender_of p c) (sender_ticks_at r c i)).statement
  pub receives : (c i : ℕ) → c < channel_count p → i < j c → WaitsToReceive c (after (receiver_of p c) (receiver_ticks_at r c i)).statement
  pub sender_within : (c i : ℕ) → i < j c → sender_ticks_at r c i ≤ t (sender_of p c)
  pub receiver_within : (c i : ℕ) → i < j c → receiver_ticks_at r c i ≤ t (receiver_of p c)
  pub sender_rise : (c i k : ℕ) → i < k → k < j c → sender_ticks_at r c i < sender_ticks_at r c k
  pub receiver_rise : (c i k : ℕ) → i < k → k < j c → receiver_ticks_at r c i < receiver_ticks_at r c k

legal_along : (p : Setup) (d : ℕ) (a b : DomainState) (s u : List (Option ℤ)) (x y : DomainState) → a ≡ b → s ≡ u → x ≡ y → IsLegalTick p.tables p.inputs d a s x →
    IsLegalTick p.tables p.inputs d b u y
legal_along p d a b s u x y e f g h =
    subst (λ z. IsLegalTick p.tables p.inputs d b u z) g (subst (λ z. IsLegalTick p.tables p.inputs d b z x) f (subst (λ z. IsLegalTick p.tables p.inputs d z s x) e h))

-- the states right after ticks, with one more
pub with_tick : (ℕ → ℕ → DomainState) → (ℕ → ℕ) → ℕ → DomainState → ℕ → ℕ → DomainState
with_tick after t d x = put_at after d (put_at (after d) (suc (t d)) x)

with_tick-kept : (after : ℕ → ℕ → DomainState) (t : ℕ → ℕ) (d : ℕ) (x : DomainState) (e m : ℕ) → m ≤ t e → with_tick after t d x e m ≡ after e m
unfolding with_tick
with_tick-kept after t d x e m h = elim (put_cases after d (put_at (after d) (suc (t d)) x) e) [
  | inl (q, u) ↦
      let w = ap t q in
      ap (λ f. f m) u ∙ put_apart (after d) (suc (t d)) x m (λ y. omega arith) ∙ ap (λ f. after f m) (sym q)
  | inr (q, u) ↦ ap (λ f. f m) u
]

with_tick-new : (after : ℕ → ℕ → DomainState) (t : ℕ → ℕ) (d : ℕ) (x : DomainState) → with_tick after t d x d (suc (t d)) ≡ x
unfolding with_tick
with_tick-new after t d x = ap (λ f. f (suc (t d))) (put_here after d (put_at (after d) (suc (t d)) x)) ∙ put_here (after d) (suc (t d)) x

pub tick_so_far : (p : Setup) (r : RunState) (after : ℕ → ℕ → DomainState) (t j : ℕ → ℕ) (s : SystemState) (d : ℕ) (statuses : List (Option ℤ)) (x : DomainState) →
    SoFar p r after t j s → d < domain_count p → IsLegalTick p.tables p.inputs d (s.domain d) statuses x → (tick_of r d (t d)).statuses ≡ statuses →
    SoFar p r (with_tick after t d x) (put_at t d (suc (t d))) j (record s { domain = put_at s.domain d x })
tick_so_far p r after t j s d statuses x a w legal told =
    let new = with_tick after t d x in
    let kept = with_tick-kept after t d x in
    let here : IsLegalTick p.tables p.inputs d (with_joins p r d (t d) j (new d (t d))) (tick_of r d (t d)).statuses (new d (suc (t d))) =
    legal_along p d (s.domain d) (with_joins p r d (t d) j (new d (t d))) statuses (tick_of r d (t d)).statuses x (new d (suc (t d)))
    (a.domains d w ∙ ap (with_joins p r d (t d) j) (sym (kept d (t d) (omega arith)))) (sym told) (sym (with_tick-new after t d x)) legal in
    let before : (e n : ℕ) → e < domain_count p → n < t e → IsLegalTick p.tables p.inputs e (with_joins p r e n j (new e n)) (tick_of r e n).statuses (new e (suc n)) =
    λ e n h k. legal_along p e _ _ _ _ _ _ (ap (with_joins p r e n j) (sym (kept e n (omega arith)))) refl (sym (kept e (suc n) (omega arith))) (a.ticks e n h k) in
    record {
      begins = λ e h. kept e 0 (omega arith) ∙ a.begins e h;
      ticks = λ e n h k.
          elim (cases_lt n (t e)) [
            | inl l ↦ before e n h l
            | inr l ↦ elim (put_cases t d (suc (t d)) e) [
              | inl (q, u) ↦
                  let m : n ≡ t e = let v = ap t q in omega arith in
                  let P : ℕ → Type 0 = λ z. IsLegalTick p.tables p.inputs e (with_joins p r e z j (new e z)) (tick_of r e z).statuses (new e (suc z)) in
                  let Q : ℕ → Type 0 = λ z. IsLegalTick p.tables p.inputs z (with_joins p r z (t z) j (new z (t z))) (tick_of r z (t z)).statuses (new z (suc (t z))) in
                  subst P (sym m) (subst Q (sym q) here)
              | inr (q, u) ↦ absurd (omega arith)
            ]
          ];
      counts = λ e h. elim (put_cases t d (suc (t d)) e) [
        | inl (q, u) ↦ ap (λ z. z.ticks) (ap (put_at s.domain d x) q ∙ put_here s.domain d x) ∙ ap (λ z. z.ticks) legal.next ∙ ap suc (a.counts d w) ∙ sym u
        | inr (q, u) ↦ ap (λ z. z.ticks) (put_apart s.domain d x e q) ∙ a.counts e h ∙ sym u
      ];
      domains = λ e h. elim (put_cases t d (suc (t d)) e) [
        | inl (q, u) ↦
            ap (put_at s.domain d x) q ∙ put_here s.domain d x
            ∙ sym (with_tick-new after t d x)
            ∙ sym (joins_none p r d (suc (t d)) j (new d (suc (t d)))
            (λ c i q2 k. let v = a.sender_within c i k in let v2 = ap t q2 in λ y. omega arith)
            (λ c i q2 k. let v = a.receiver_within c i k in let v2 = ap t q2 in λ y. omega arith))
            ∙ ap (λ z. with_joins p r z (suc (t d)) j (new z (suc (t d)))) (sym q)
            ∙ ap (λ m. with_joins p r e m j (new e m)) (sym u)
        | inr (q, u) ↦
            put_apart s.domain d x e q ∙ a.domains e h
            ∙ ap (with_joins p r e (t e) j) (sym (kept e (t e) (omega arith)))
            ∙ ap (λ m. with_joins p r e m j (new e m)) (sym u)
      ];
      sends = λ c i h k. subst (λ z. WaitsToSend c (value_at r c i) z.statement) (sym (kept (sender_of p c) (sender_ticks_at r c i) (a.sender_within c i k))) (a.sends c i h k);
      receives = λ c i h k. subst (λ z. WaitsToReceive c z.statement) (sym (kept (receiver_of p c) (receiver_ticks_at r c i) (a.receiver_within c i k))) (a.receives c i h k);
      sender_within = λ c i h. let v = a.sender_within c i h in let v2 = put_more t d (sender_of p c) in omega arith;
      receiver_within = λ c i h. let v = a.receiver_within c i h in let v2 = put_more t d (receiver_of p c) in omega arith;
      sender_rise = a.sender_rise;
      receiver_rise = a.receiver_rise;
    }

-- a place below one more is an earlier one or the new one
pub place_cases : (j : ℕ → ℕ) (c b i : ℕ) → i < one_more j c b → (i < j b) ⊎ ((b ≡ c) × (i ≡ j c))
place_cases j c b i h = elim (put_cases j c (suc (j c)) b) [
  | inl (q, u) ↦ elim (cases_lt i (j c)) [ inl l ↦ let v = ap j q in inl (omega arith) | inr l ↦ inr (q, omega arith) ]
  | inr (q, u) ↦ inl (omega arith)
]

pub off_here : (d : ℕ) (x : Bool) → ((d == d) && x) ≡ false → x ≡ false
off_here d x h = elim (and_cases (d == d) x h) [ inl e ↦ absurd (eqb-false d d e refl) | inr e ↦ e ]

pub join_so_far : (p : Setup) (r : RunState) (after : ℕ → ℕ → DomainState) (t j : ℕ → ℕ) (s new : SystemState) (c : ℕ) (join : JoinRecord) →
    IsSystem p → SoFar p r after t j s → c < channel_count p → JoinStep p s c join new → record_of (join_of r c (j c)) ≡ join →
    SoFar p r after t (one_more j c) new
join_so_far p r after t j s new c join sys a w step told =
    let i = j c in
    let sd = sender_of p c in
    let rd = receiver_of p c in
    let ws = sys.sender c w in
    let wr = sys.receiver c w in
    let vq : join.value ≡ value_at r c i = ap (λ x. x.value) (sym told) in
    let ns : sender_ticks_at r c i ≡ t sd = ap (λ x. x.sender_ticks) told ∙ step.sender_ticks ∙ a.counts sd ws in
    let nr : receiver_ticks_at r c i ≡ t rd = ap (λ x. x.receiver_ticks) told ∙ step.receiver_ticks ∙ a.counts rd wr in
    let sent : WaitsToSend c join.value (with_joins p r sd (t sd) j (after sd (t sd))).statement = subst (λ x. WaitsToSend c join.value x.statement) (a.domains sd ws) step.sends in
    let got : WaitsToReceive c (with_joins p r rd (t rd) j (after rd (t rd))).statement = subst (λ x. WaitsToReceive c x.statement) (a.domains rd wr) step.receives in
    let was_sent = found_waited_to_send p.tables sd (found_after p r sd (t sd) j) (after sd (t sd)) c join.value sent in
    let was_got = found_waited_to_receive p.tables rd (found_after p r rd (t rd) j) (after rd (t rd)) c got in
    let no_send : (m : ℕ) → m < i → sender_ticks_at r c m ≢ t sd = λ m l x.
    beside_absent (own_ticks_at p r sd c) (value_at r c) (t sd) i (off_here sd _ was_sent.0) m l (ap (λ f. f m) (own_sender p r sd c refl) ∙ x) in
    let no_get : (m : ℕ) → m < i → receiver_ticks_at r c m ≢ t rd = λ m l x.
    beside_absent (own_ticks_at p r rd c) (value_at r c) (t rd) i (off_here rd _ was_got.0) m l (ap (λ f. f m) (own_receiver p r rd c (sys.apart c w)) ∙ x) in
    let sent_at = with_found p.tables sd (only c join.value) (s.domain sd) in
    let got_at = with_found p.tables rd (only c join.value) (s.domain rd) in
    record {
      begins = a.begins;
      ticks = λ d n h k.
          let same : with_joins p r d n (one_more j c) (after d n) ≡ with_joins p r d n j (after d n) =
          joins_same p r d n j (one_more j c) (after d n) (put_more j c)
          (λ b m q l o x. elim (place_cases j c b m o) [
            | inl y ↦ absurd (omega arith)
            | inr (y, z) ↦ let v = ap (λ u. sender_ticks_at r u m) y in let v2 = ap (sender_ticks_at r c) z in let v3 = ap t (ap (sender_of p) (sym y) ∙ q) in absurd (omega arith)
          ])
          (λ b m q l o x. elim (place_cases j c b m o) [
            | inl y ↦ absurd (omega arith)
            | inr (y, z) ↦ let v = ap (λ u. receiver_ticks_at r u m) y in let v2 = ap (receiver_ticks_at r c) z in let v3 = ap t (ap (receiver_of p) (sym y) ∙ q) in absurd (omega arith)
          ]) in
          legal_along p d _ _ _ _ _ _ (sym same) refl refl (a.ticks d n h k);
      counts = λ d h. ap (λ x. (x.domain d).ticks) step.next ∙ elim (put_cases (put_at s.domain sd sent_at) rd got_at d) [
        | inl (q, u) ↦ ap (λ z. z.ticks) u ∙ a.counts rd wr ∙ ap t (sym q)
        | inr (q, u) ↦ ap (λ z. z.ticks) u ∙ elim (put_cases s.domain sd sent_at d) [
          | inl (q2, u2) ↦ ap (λ z. z.ticks) u2 ∙ a.counts sd ws ∙ ap t (sym q2)
          | inr (q2, u2) ↦ ap (λ z. z.ticks) u2 ∙ a.counts d h
        ]
      ];
      domains = λ d h. ap (λ x. x.domain d) step.next ∙ joined_domains p r after t j s.domain c join.value d vq (a.domains sd ws) (a.domains rd wr) (a.domains d h) (sys.apart c w) ns nr;
      sends = λ b m h k. elim (place_cases j c b m k) [
        | inl y ↦ a.sends b m h y
        | inr (y, z) ↦
            let v : WaitsToSend c (value_at r c i) (after sd (sender_ticks_at r c i)).statement =
            subst (λ n. WaitsToSend c (value_at r c i) (after sd n).statement) (sym ns) (subst (λ x. WaitsToSend c x (after sd (t sd)).statement) vq was_sent.1) in
            let P : ℕ → Type 0 = λ n. WaitsToSend c (value_at r c n) (after sd (sender_ticks_at r c n)).statement in
            let Q : ℕ → Type 0 = λ u. WaitsToSend u (value_at r u m) (after (sender_of p u) (sender_ticks_at r u m)).statement in
            subst Q (sym y) (subst P (sym z) v)
      ];
      receives = λ b m h k. elim (place_cases j c b m k) [
        | inl y ↦ a.receives b m h y
        | inr (y, z) ↦
            let v : WaitsToReceive c (after rd (receiver_ticks_at r c i)).statement = subst (λ n. WaitsToReceive c (after rd n).statement) (sym nr) was_got.1 in
            let P : ℕ → Type 0 = λ n. WaitsToReceive c (after rd (receiver_ticks_at r c n)).statement in
            let Q : ℕ → Type 0 = λ u. WaitsToReceive u (after (receiver_of p u) (receiver_ticks_at r u m)).statement in
            subst Q (sym y) (subst P (sym z) v)
      ];
      sender_within = λ b m k. elim (place_cases j c b m k) [
        | inl y ↦ a.sender_within b m y
        | inr (y, z) ↦ let v = ap (λ u. sender_ticks_at r u m) y in let v2 = ap (sender_ticks_at r c) z in let v3 = ap (λ u. t (sender_of p u)) y in omega arith
      ];
      receiver_within = λ b m k. elim (place_cases j c b m k) [
        | inl y ↦ a.receiver_within b m y
        | inr (y, z) ↦ let v = ap (λ u. receiver_ticks_at r u m) y in let v2 = ap (receiver_ticks_at r c) z in let v3 = ap (λ u. t (receiver_of p u)) y in omega arith
      ];
      sender_rise = λ b m k l o. elim (place_cases j c b k o) [
        | inl y ↦ a.sender_rise b m k l y
        | inr (y, z) ↦
            let k1 : m < i = omega arith in
            let v1 = a.sender_within c m k1 in
            let v2 = no_send m k1 in
            let v3 = ap (sender_ticks_at r c) z in
            let P : ℕ → Type 0 = λ u. sender_ticks_at r u m < sender_ticks_at r u k in
            let low : sender_ticks_at r c m < sender_ticks_at r c k = omega arith in
            subst P (sym y) low
      ];
      receiver_rise = λ b m k l o. elim (place_cases j c b k o) [
        | inl y ↦ a.receiver_rise b m k l y
        | inr (y, z) ↦
            let k1 : m < i = omega arith in
            let v1 = a.receiver_within c m k1 in
            let v2 = no_get m k1 in
            let v3 = ap (receiver_ticks_at r c) z in
            let P : ℕ → Type 0 = λ u. receiver_ticks_at r u m < receiver_ticks_at r u k in
            let low : receiver_ticks_at r c m < receiver_ticks_at r c k = omega arith in
            subst P (sym y) low
      ];
    }

-- to the end of the moves
pub record AtEnd (p : Setup) (r : RunState) (end : SystemState) : Type 0 where
  pub after : ℕ → ℕ → DomainState
  pub t : ℕ → ℕ
  pub j : ℕ → ℕ
  pub so_far : SoFar p r after t j end
  pub ticks : (d : ℕ) → t d ≡ tick_count r d
  pub joins : (c : ℕ) → j c ≡ join_count r c

to_end : (p : Setup) (r : RunState) (after : ℕ → ℕ → DomainState) (t j : ℕ → ℕ) (s : SystemState) (moves : List Move) (end : SystemState) →
    IsSystem p → SoFar p r after t j s → Steps p s moves end → TellsFrom r t j moves → AtEnd p r end
to_end p r after t j s [] end sys a steps tells =
    record { after = after; t = t; j = j; so_far = subst (SoFar p r after t j) steps a; ticks = tells.0; joins = tells.1 }
to_end p r after t j s (MakesTick d statuses ∷ moves) end sys a steps tells =
    let step = steps.1.1 in
    let next = tick_so_far p r after t j s d statuses step.after a steps.1.0 step.legal tells.1 in
    to_end p r (with_tick after t d step.after) (put_at t d (suc (t d))) j steps.0 moves end sys
    (subst (SoFar p r (with_tick after t d step.after) (put_at t d (suc (t d))) j) (sym step.next) next) steps.2 tells.2
to_end p r after t j s (MakesJoin c join ∷ moves) end sys a steps tells =
    to_end p r after t (one_more j c) steps.0 moves end sys (join_so_far p r after t j s steps.0 c join sys a steps.1.0 steps.1.1 tells.1) steps.2 tells.2

pub at_start : (p : Setup) (r : RunState) → SoFar p r (λ d n. start_of p d) (λ d. 0) (λ c. 0) (start p)
at_start p r =
    record {
      begins = λ d h. refl;
      ticks = λ d n h k. absurd (omega arith);
      counts = λ d h. refl;
      domains = λ d h. sym (joins_none p r d 0 (λ c. 0) (start_of p d) (λ c i e k. absurd (omega arith)) (λ c i e k. absurd (omega arith)));
      sends = λ c i h k. absurd (omega arith);
      receives = λ c i h k. absurd (omega arith);
      sender_within = λ c i h. absurd (omega arith);
      receiver_within = λ c i h. absurd (omega arith);
      sender_rise = λ c i k h l. absurd (omega arith);
      receiver_rise = λ c i k h l. absurd (omega arith);
    }

pub steps_have_own_runs : (p : Setup) (r : RunState) (moves : List Move) (end : SystemState) → IsSystem p → IsRunOf p r moves end → OwnRunsTo p r end
steps_have_own_runs p r moves end sys run =
    let x = to_end p r (λ d n. start_of p d) (λ d. 0) (λ c. 0) (start p) moves end sys (at_start p r) run.steps run.tells in
    let a = x.so_far in
    let all : (d n : ℕ) → with_joins p r d n (join_count r) (x.after d n) ≡ with_joins p r d n x.j (x.after d n) =
    λ d n. joins_same p r d n x.j (join_count r) (x.after d n) (λ c. let v = x.joins c in omega arith)
    (λ c i q k l m. let v = x.joins c in omega arith) (λ c i q k l m. let v = x.joins c in omega arith) in
    let ends : (d : ℕ) → d < domain_count p → end.domain d ≡ with_joins p r d (tick_count r d) (join_count r) (x.after d (tick_count r d)) =
    λ d h. a.domains d h ∙ sym (all d (x.t d)) ∙ ap (λ n. with_joins p r d n (join_count r) (x.after d n)) (x.ticks d) in
    record {
      own = record {
        after = x.after;
        own = λ d h. record {
          begins = a.begins d h;
          ticks = λ n k. legal_along p d _ _ _ _ _ _ (sym (all d n)) refl refl (a.ticks d n h (let v = x.ticks d in omega arith));
          sends = λ c i w k q. subst (λ z. WaitsToSend c (value_at r c i) (x.after z (sender_ticks_at r c i)).statement) q (a.sends c i w (let v = x.joins c in omega arith));
          receives = λ c i w k q. subst (λ z. WaitsToReceive c (x.after z (receiver_ticks_at r c i)).statement) q (a.receives c i w (let v = x.joins c in omega arith));
          mark = run.marks d h ∙ ap (λ z. z.mark) (ends d h);
        };
        rise = record {
          sender = λ c i k w l m. a.sender_rise c i k l (let v = x.joins c in omega arith);
          receiver = λ c i k w l m. a.receiver_rise c i k l (let v = x.joins c in omega arith);
        };
      };
      domains = ends;
    }

-- in stamp order they are legal
pub steps_are_legal : (p : Setup) (r : RunState) (moves : List Move) (end : SystemState) → IsSystem p → Fits p r → HasStamps p r → IsRunOf p r moves end → IsLegalTo p r end
steps_are_legal p r moves end sys fit st run =
    let o = steps_have_own_runs p r moves end sys run in
    let x = own_runs_are_legal p r sys fit st o.own in
    record { last = x.end; legal = x.legal; domains = λ d h. x.domains d h ∙ sym (o.domains d h) }
