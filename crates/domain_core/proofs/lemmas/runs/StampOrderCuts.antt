-- Along the stamp order, the state is that of each domain's own run after as many of its ticks and joins as were passed.
use Rattle.std.proofs.Common.{◌≡◌, ◌≢◌, ℕ, zero, suc, ◌<◌, ◌≤◌, false, List, [], ◌∷◌, ◌++◌, length, refl, sym, ap, ◌∙◌, subst, inl, inr, arith, length-append}
use Rattle.std.specs.Prelude.{◌==◌, ◌&&◌, is_some}
use Rattle.std.proofs.lemmas.Bool.{cases_lt}
use Rattle.domain_core.specs.definitions.runs.Systems.{WaitsToSend, WaitsToReceive, Setup, SystemState, start, sender_of, receiver_of, with_found, only, IsSystem, domain_count, channel_count}
use Rattle.kernel_rules.specs.definitions.LegalTick.{DomainState, IsLegalTick}
use Rattle.kernel_rules.specs.definitions.Signals.{put_at}
use Rattle.tick_log.specs.definitions.Runs.{RunState, tick_count, join_count, tick_of, join_of}
use Rattle.tick_log.specs.definitions.StampOrder.{Event, TickOf, JoinOf, IsBefore, by_stamp, at_one_stamp, IsIn, Ascends, IsStampOrder}
use Rattle.domain_core.specs.definitions.runs.LegalRuns.{HasStamps, Fits, Makes, MakesAll, record_of}
use Rattle.domain_core.specs.definitions.runs.OwnRuns.{sender_ticks_at, receiver_ticks_at, value_at, found_after, with_joins, HasOwnRuns, own_end, EndsLegally}
use Rattle.domain_core.proofs.lemmas.runs.FoundJoins.{found_still_sends, found_still_receives}
use Rattle.domain_core.proofs.lemmas.runs.StampOrders.{before_self, has_order}
use Rattle.domain_core.proofs.lemmas.runs.StampRuleLemmas.{ticks_rise, join_after_sender, join_after_receiver, tick_after_join, joins_rise, before_stamp, channel_of}
use Rattle.domain_core.proofs.lemmas.runs.StatesBetweenTicks.{put_here, put_apart, put_cases, put_more, none_sent, none_got, joins_same, joins_none, one_more, sent_more, got_more, other_more}

-- what the law has at hand
pub record Given (p : Setup) (r : RunState) : Type 0 where
  pub system : IsSystem p
  pub fits : Fits p r
  pub stamps : HasStamps p r
  pub own : HasOwnRuns p r

-- the first t d ticks of each domain and the first j c joins of each channel are passed, and the rest are left
pub record IsAt (p : Setup) (r : RunState) (after : ℕ → ℕ → DomainState) (t j : ℕ → ℕ) (left : List Event) (s : SystemState) : Type 0 where
  pub tick_left : (d n : ℕ) → IsIn (TickOf d n) left → (d < length r.logs) × (t d ≤ n) × (n < tick_count r d)
  pub tick_comes : (d n : ℕ) → d < length r.logs → t d ≤ n → n < tick_count r d → IsIn (TickOf d n) left
  pub join_left : (c i : ℕ) → IsIn (JoinOf c i) left → (c < length r.histories) × (j c ≤ i) × (i < join_count r c)
  pub join_comes : (c i : ℕ) → c < length r.histories → j c ≤ i → i < join_count r c → IsIn (JoinOf c i) left
  pub joins_within : (c : ℕ) → j c ≤ join_count r c
  pub ticks_within : (d : ℕ) → t d ≤ tick_count r d
  pub sender_later : (c i : ℕ) → j c ≤ i → i < join_count r c → t (sender_of p c) ≤ sender_ticks_at r c i
  pub receiver_later : (c i : ℕ) → j c ≤ i → i < join_count r c → t (receiver_of p c) ≤ receiver_ticks_at r c i
  pub sender_earlier : (c i : ℕ) → i < j c → sender_ticks_at r c i ≤ t (sender_of p c)
  pub receiver_earlier : (c i : ℕ) → i < j c → receiver_ticks_at r c i ≤ t (receiver_of p c)
  pub domains : (d : ℕ) → d < domain_count p → s.domain d ≡ with_joins p r d (t d) j (after d (t d))
  pub counts : (c : ℕ) → length (s.joins c) ≡ j c

-- the first event that is left is the next of its domain
tick_is_next : (p : Setup) (r : RunState) (g : Given p r) (t j : ℕ → ℕ) (d n : ℕ) (left : List Event) (s : SystemState) →
    IsAt p r g.own.after t j (TickOf d n ∷ left) s → Ascends r (TickOf d n ∷ left) → n ≡ t d
tick_is_next p r g t j d n left s a o =
    let l = a.tick_left d n (inl refl) in
    elim (cases_lt (t d) n) [
      | inl h ↦
          let i : IsIn (TickOf d (t d)) (TickOf d n ∷ left) = a.tick_comes d (t d) l.0 (omega arith) (omega arith) in
          elim i [
            | inl e ↦ let q : t d ≡ n = cc in sym q
            | inr i ↦
                let b = before_stamp r (TickOf d n) (TickOf d (t d)) (o.0 (TickOf d (t d)) i) in
                let c = ticks_rise p r g.stamps d (t d) n h l.2 in
                absurd (omega arith)
          ]
      | inr h ↦ omega arith
    ]

not_before_earlier : (r : RunState) (c i k : ℕ) → k < i → (join_of r c k).stamp ≤ (join_of r c i).stamp → IsBefore r (JoinOf c i) (JoinOf c k) → ⊥
not_before_earlier r c i k h l (by_stamp b) = omega arith
not_before_earlier r c i k h l (at_one_stamp s (inl b)) = omega arith
not_before_earlier r c i k h l (at_one_stamp s (inr b)) = omega arith

-- the history's join, of a channel of the program
channel_within : (p : Setup) (r : RunState) (g : Given p r) (c i : ℕ) → i < join_count r c → c < channel_count p
channel_within p r g c i h = let l = channel_of r c i h in let e = g.fits.histories in omega arith

join_is_next : (p : Setup) (r : RunState) (g : Given p r) (t j : ℕ → ℕ) (c i : ℕ) (left : List Event) (s : SystemState) →
    IsAt p r g.own.after t j (JoinOf c i ∷ left) s → Ascends r (JoinOf c i ∷ left) → i ≡ j c
join_is_next p r g t j c i left s a o =
    let l = a.join_left c i (inl refl) in
    elim (cases_lt (j c) i) [
      | inl h ↦
          let m : IsIn (JoinOf c (j c)) (JoinOf c i ∷ left) = a.join_comes c (j c) l.0 (omega arith) (omega arith) in
          elim m [
            | inl e ↦ let q : j c ≡ i = cc in sym q
            | inr m ↦ absurd (not_before_earlier r c i (j c) h (joins_rise p r g.stamps g.own.rise c (j c) i (channel_within p r g c i l.2) h l.2) (o.0 (JoinOf c (j c)) m))
          ]
      | inr h ↦ omega arith
    ]

-- at a tick, all joins before it are passed
all_joined_sender : (p : Setup) (r : RunState) (g : Given p r) (t j : ℕ → ℕ) (d n : ℕ) (left : List Event) (s : SystemState) →
    IsAt p r g.own.after t j (TickOf d n ∷ left) s → Ascends r (TickOf d n ∷ left) →
    (c i : ℕ) → sender_of p c ≡ d → j c ≤ i → i < join_count r c → sender_ticks_at r c i ≢ n
all_joined_sender p r g t j d n left s a o c i e h k q =
    let w = channel_within p r g c i k in
    let st = g.stamps.joins c i w k in
    let num = st.sender_number in
    let l = a.tick_left d n (inl refl) in
    let x = tick_after_join p r g.stamps d n c i l.2 (omega arith) (record { channel = w; stands = k; number = inl (e, q) }) in
    let m : IsIn (JoinOf c i) (TickOf d n ∷ left) = a.join_comes c i (channel_of r c i k) h k in
    elim m [
      | inl u ↦ cc
      | inr m ↦ let b = before_stamp r (TickOf d n) (JoinOf c i) (o.0 (JoinOf c i) m) in absurd (omega arith)
    ]

all_joined_receiver : (p : Setup) (r : RunState) (g : Given p r) (t j : ℕ → ℕ) (d n : ℕ) (left : List Event) (s : SystemState) →
    IsAt p r g.own.after t j (TickOf d n ∷ left) s → Ascends r (TickOf d n ∷ left) →
    (c i : ℕ) → receiver_of p c ≡ d → j c ≤ i → i < join_count r c → receiver_ticks_at r c i ≢ n
all_joined_receiver p r g t j d n left s a o c i e h k q =
    let w = channel_within p r g c i k in
    let st = g.stamps.joins c i w k in
    let num = st.receiver_number in
    let l = a.tick_left d n (inl refl) in
    let x = tick_after_join p r g.stamps d n c i l.2 (omega arith) (record { channel = w; stands = k; number = inr (e, q) }) in
    let m : IsIn (JoinOf c i) (TickOf d n ∷ left) = a.join_comes c i (channel_of r c i k) h k in
    elim m [
      | inl u ↦ cc
      | inr m ↦ let b = before_stamp r (TickOf d n) (JoinOf c i) (o.0 (JoinOf c i) m) in absurd (omega arith)
    ]

-- at a join, both of its domains have just made the ticks whose numbers it has
at_sender : (p : Setup) (r : RunState) (g : Given p r) (t j : ℕ → ℕ) (c i : ℕ) (left : List Event) (s : SystemState) →
    IsAt p r g.own.after t j (JoinOf c i ∷ left) s → Ascends r (JoinOf c i ∷ left) → sender_ticks_at r c i ≡ t (sender_of p c)
at_sender p r g t j c i left s a o =
    let l = a.join_left c i (inl refl) in
    let w = channel_within p r g c i l.2 in
    let st = g.stamps.joins c i w l.2 in
    let num = st.sender_number in
    let late = a.sender_later c i l.1 l.2 in
    let x = join_after_sender p r c i st in
    let sys = g.system.sender c w in let fit = g.fits.logs in
    elim (cases_lt st.sender (t (sender_of p c))) [
      | inl h ↦ omega arith
      | inr h ↦
          let m : IsIn (TickOf (sender_of p c) st.sender) (JoinOf c i ∷ left) = a.tick_comes (sender_of p c) st.sender (omega arith) h st.sender_stands in
          elim m [
            | inl u ↦ cc
            | inr m ↦ let b = before_stamp r (JoinOf c i) (TickOf (sender_of p c) st.sender) (o.0 (TickOf (sender_of p c) st.sender) m) in absurd (omega arith)
          ]
    ]

at_receiver : (p : Setup) (r : RunState) (g : Given p r) (t j : ℕ → ℕ) (c i : ℕ) (left : List Event) (s : SystemState) →
    IsAt p r g.own.after t j (JoinOf c i ∷ left) s → Ascends r (JoinOf c i ∷ left) → receiver_ticks_at r c i ≡ t (receiver_of p c)
at_receiver p r g t j c i left s a o =
    let l = a.join_left c i (inl refl) in
    let w = channel_within p r g c i l.2 in
    let st = g.stamps.joins c i w l.2 in
    let num = st.receiver_number in
    let late = a.receiver_later c i l.1 l.2 in
    let x = join_after_receiver p r c i st in
    let sys = g.system.receiver c w in let fit = g.fits.logs in
    elim (cases_lt st.receiver (t (receiver_of p c))) [
      | inl h ↦ omega arith
      | inr h ↦
          let m : IsIn (TickOf (receiver_of p c) st.receiver) (JoinOf c i ∷ left) = a.tick_comes (receiver_of p c) st.receiver (omega arith) h st.receiver_stands in
          elim m [
            | inl u ↦ cc
            | inr m ↦ let b = before_stamp r (JoinOf c i) (TickOf (receiver_of p c) st.receiver) (o.0 (TickOf (receiver_of p c) st.receiver) m) in absurd (omega arith)
          ]
    ]

-- a domain's own run counts its ticks
own_ticks : (p : Setup) (r : RunState) (g : Given p r) (d n : ℕ) → d < domain_count p → n ≤ tick_count r d → (g.own.after d n).ticks ≡ n
own_ticks p r g d zero h k = ap (λ s. s.ticks) (g.own.own d h).begins
own_ticks p r g d (suc n) h k =
    let o = (g.own.own d h).ticks n (omega arith) in
    ap (λ s. s.ticks) o.next ∙ ap suc (own_ticks p r g d n h (omega arith))

-- a step to a state in which the rest is left
pub record Passes (p : Setup) (r : RunState) (after : ℕ → ℕ → DomainState) (event : Event) (left : List Event) (old : SystemState) : Type 0 where
  pub new : SystemState
  pub step : Makes p r old event new
  pub t : ℕ → ℕ
  pub j : ℕ → ℕ
  pub at_new : IsAt p r after t j left new

tick_passes : (p : Setup) (r : RunState) (g : Given p r) (t j : ℕ → ℕ) (d : ℕ) (left : List Event) (s : SystemState) →
    IsAt p r g.own.after t j (TickOf d (t d) ∷ left) s → Ascends r (TickOf d (t d) ∷ left) → Passes p r g.own.after (TickOf d (t d)) left s
tick_passes p r g t j d left s a o =
    let after = g.own.after in
    let n = t d in
    let l = a.tick_left d n (inl refl) in
    let fit = g.fits.logs in
    let w : d < domain_count p = omega arith in
    let own = (g.own.own d w).ticks n l.2 in
    let all : with_joins p r d n (join_count r) (after d n) ≡ with_joins p r d n j (after d n) =
    joins_same p r d n j (join_count r) (after d n) a.joins_within (all_joined_sender p r g t j d n left s a o) (all_joined_receiver p r g t j d n left s a o) in
    let here : with_joins p r d n (join_count r) (after d n) ≡ s.domain d = all ∙ sym (a.domains d w) in
    let legal : IsLegalTick p.tables p.inputs d (s.domain d) (tick_of r d n).statuses (after d (suc n)) =
    subst (λ x. IsLegalTick p.tables p.inputs d x (tick_of r d n).statuses (after d (suc n))) here own in
    record {
      new = record s { domain = put_at s.domain d (after d (suc n)) };
      step = (ap (λ x. x.ticks) (a.domains d w) ∙ own_ticks p r g d n w (a.ticks_within d), (w, record { after = after d (suc n); legal = legal; next = refl }));
      t = put_at t d (suc n);
      j = j;
      at_new = record {
        tick_left = λ e m i.
            let b = a.tick_left e m (inr i) in
            elim (put_cases t d (suc n) e) [
              | inl (q, u) ↦
                  let apart : m ≢ n = λ x.
                  let same : TickOf e m ≡ TickOf d n = cc in
                  before_self r (TickOf d n) (o.0 (TickOf d n) (subst (λ y. IsIn y left) same i)) in
                  let low = ap t q in
                  (b.0, omega arith, b.2)
              | inr (q, u) ↦ (b.0, omega arith, b.2)
            ];
        tick_comes = λ e m h k v.
            let low = put_more t d e in
            elim (a.tick_comes e m h (omega arith) v) [
              | inl same ↦
                  let q : e ≡ d = cc in
                  let q2 : m ≡ n = cc in
                  let u = ap (put_at t d (suc n)) q ∙ put_here t d (suc n) in
                  absurd (omega arith)
              | inr i ↦ i
            ];
        join_left = λ c i m. a.join_left c i (inr m);
        join_comes = λ c i h k v. elim (a.join_comes c i h k v) [ inl same ↦ cc | inr m ↦ m ];
        joins_within = a.joins_within;
        ticks_within = λ e. elim (put_cases t d (suc n) e) [
          | inl (q, u) ↦ let v = ap (tick_count r) q in let v2 = l.2 in omega arith
          | inr (q, u) ↦ let v = a.ticks_within e in omega arith
        ];
        sender_later = λ c i h k.
            let v = a.sender_later c i h k in
            elim (put_cases t d (suc n) (sender_of p c)) [
              | inl (q, u) ↦ let v2 = all_joined_sender p r g t j d n left s a o c i q h k in let v3 = ap t q in omega arith
              | inr (q, u) ↦ omega arith
            ];
        receiver_later = λ c i h k.
            let v = a.receiver_later c i h k in
            elim (put_cases t d (suc n) (receiver_of p c)) [
              | inl (q, u) ↦ let v2 = all_joined_receiver p r g t j d n left s a o c i q h k in let v3 = ap t q in omega arith
              | inr (q, u) ↦ omega arith
            ];
        sender_earlier = λ c i h. let v = a.sender_earlier c i h in let v2 = put_more t d (sender_of p c) in omega arith;
        receiver_earlier = λ c i h. let v = a.receiver_earlier c i h in let v2 = put_more t d (receiver_of p c) in omega arith;
        domains = λ e h.
            elim (put_cases t d (suc n) e) [
              | inl (q, u) ↦
                  ap (put_at s.domain d (after d (suc n))) q ∙ put_here s.domain d (after d (suc n))
                  ∙ sym (joins_none p r d (suc n) j (after d (suc n))
                  (λ c i q2 k. let v = a.sender_earlier c i k in let v2 = ap t q2 in λ x. omega arith)
                  (λ c i q2 k. let v = a.receiver_earlier c i k in let v2 = ap t q2 in λ x. omega arith))
                  ∙ ap (λ x. with_joins p r x (suc n) j (after x (suc n))) (sym q)
                  ∙ ap (λ m. with_joins p r e m j (after e m)) (sym u)
              | inr (q, u) ↦
                  put_apart s.domain d (after d (suc n)) e q ∙ a.domains e h ∙ ap (λ m. with_joins p r e m j (after e m)) (sym u)
            ];
        counts = a.counts;
      };
    }

join_passes : (p : Setup) (r : RunState) (g : Given p r) (t j : ℕ → ℕ) (c : ℕ) (left : List Event) (s : SystemState) →
    IsAt p r g.own.after t j (JoinOf c (j c) ∷ left) s → Ascends r (JoinOf c (j c) ∷ left) → Passes p r g.own.after (JoinOf c (j c)) left s
join_passes p r g t j c left s a o =
    let after = g.own.after in
    let i = j c in
    let l = a.join_left c i (inl refl) in
    let w : c < channel_count p = channel_within p r g c i l.2 in
    let sd = sender_of p c in
    let rd = receiver_of p c in
    let ws : sd < domain_count p = g.system.sender c w in
    let wr : rd < domain_count p = g.system.receiver c w in
    let ns : sender_ticks_at r c i ≡ t sd = at_sender p r g t j c i left s a o in
    let nr : receiver_ticks_at r c i ≡ t rd = at_receiver p r g t j c i left s a o in
    let v = value_at r c i in
    let not_sent : ((sd == sd) && is_some (found_after p r sd (t sd) j c)) ≡ false =
    none_sent p r (t sd) j c (λ k h. let x = g.own.rise.sender c k i w h l.2 in λ y. omega arith) in
    let not_got : ((rd == rd) && is_some (found_after p r rd (t rd) j c)) ≡ false =
    none_got p r (t rd) j c (g.system.apart c w) (λ k h. let x = g.own.rise.receiver c k i w h l.2 in λ y. omega arith) in
    let own_sends : WaitsToSend c v (after sd (t sd)).statement = subst (λ n. WaitsToSend c v (after sd n).statement) ns ((g.own.own sd ws).sends c i w l.2 refl) in
    let own_receives : WaitsToReceive c (after rd (t rd)).statement = subst (λ n. WaitsToReceive c (after rd n).statement) nr ((g.own.own rd wr).receives c i w l.2 refl) in
    let sends : WaitsToSend c v (s.domain sd).statement =
    subst (λ x. WaitsToSend c v x.statement) (sym (a.domains sd ws)) (found_still_sends p.tables sd (found_after p r sd (t sd) j) (after sd (t sd)) c v not_sent own_sends) in
    let receives : WaitsToReceive c (s.domain rd).statement =
    subst (λ x. WaitsToReceive c x.statement) (sym (a.domains rd wr)) (found_still_receives p.tables rd (found_after p r rd (t rd) j) (after rd (t rd)) c not_got own_receives) in
    let apart = g.system.apart c w in
    let sent = with_found p.tables sd (only c v) (s.domain sd) in
    let done = with_found p.tables rd (only c v) (s.domain rd) in
    let mid = put_at s.domain sd sent in
    record {
      new = record { domain = put_at mid rd done; joins = put_at s.joins c (s.joins c ++ record_of (join_of r c i) ∷ []) };
      step = (
        a.counts c,
        (
          w,
          record {
            sends = sends;
            receives = receives;
            sender_ticks = ns ∙ sym (ap (λ x. x.ticks) (a.domains sd ws) ∙ own_ticks p r g sd (t sd) ws (a.ticks_within sd));
            receiver_ticks = nr ∙ sym (ap (λ x. x.ticks) (a.domains rd wr) ∙ own_ticks p r g rd (t rd) wr (a.ticks_within rd));
            next = refl;
          },
        ),
      );
      t = t;
      j = one_more j c;
      at_new = record {
        tick_left = λ e m h. a.tick_left e m (inr h);
        tick_comes = λ e m h k x. elim (a.tick_comes e m h k x) [ inl same ↦ cc | inr q ↦ q ];
        join_left = λ b m h.
            let x = a.join_left b m (inr h) in
            elim (put_cases j c (suc i) b) [
              | inl (q, u) ↦
                  let apart : m ≢ i = λ y.
                  let same : JoinOf b m ≡ JoinOf c i = cc in
                  before_self r (JoinOf c i) (o.0 (JoinOf c i) (subst (λ z. IsIn z left) same h)) in
                  let low = ap j q in
                  (x.0, omega arith, x.2)
              | inr (q, u) ↦ (x.0, omega arith, x.2)
            ];
        join_comes = λ b m h k x.
            let low = put_more j c b in
            elim (a.join_comes b m h (omega arith) x) [
              | inl same ↦
                  let q : b ≡ c = cc in
                  let q2 : m ≡ i = cc in
                  let u = ap (put_at j c (suc i)) q ∙ put_here j c (suc i) in
                  absurd (omega arith)
              | inr z ↦ z
            ];
        joins_within = λ b. elim (put_cases j c (suc i) b) [
          | inl (q, u) ↦ let x = ap (join_count r) q in let x2 = l.2 in omega arith
          | inr (q, u) ↦ let x = a.joins_within b in omega arith
        ];
        ticks_within = a.ticks_within;
        sender_later = λ b m h k. let low = put_more j c b in a.sender_later b m (omega arith) k;
        receiver_later = λ b m h k. let low = put_more j c b in a.receiver_later b m (omega arith) k;
        sender_earlier = λ b m h.
            elim (put_cases j c (suc i) b) [
              | inl (q, u) ↦ elim (cases_lt m i) [
                | inl y ↦ a.sender_earlier b m (subst (λ z. m < j z) (sym q) y)
                | inr y ↦ let e : m ≡ i = omega arith in let x = ap (λ z. sender_ticks_at r z m) q in let x2 = ap (sender_ticks_at r c) e in let x3 = ap (λ z. t (sender_of p z)) q in omega arith
              ]
              | inr (q, u) ↦ a.sender_earlier b m (omega arith)
            ];
        receiver_earlier = λ b m h.
            elim (put_cases j c (suc i) b) [
              | inl (q, u) ↦ elim (cases_lt m i) [
                | inl y ↦ a.receiver_earlier b m (subst (λ z. m < j z) (sym q) y)
                | inr y ↦ let e : m ≡ i = omega arith in let x = ap (λ z. receiver_ticks_at r z m) q in let x2 = ap (receiver_ticks_at r c) e in let x3 = ap (λ z. t (receiver_of p z)) q in omega arith
              ]
              | inr (q, u) ↦ a.receiver_earlier b m (omega arith)
            ];
        domains = λ e h.
            elim (put_cases mid rd done e) [
              | inl (q, u) ↦
                  u ∙ ap (with_found p.tables rd (only c v)) (a.domains rd wr)
                  ∙ got_more p r rd (t rd) j c v (after rd (t rd)) refl apart nr
                  ∙ ap (λ x. with_joins p r x (t x) (one_more j c) (after x (t x))) (sym q)
              | inr (q, u) ↦ elim (put_cases s.domain sd sent e) [
                | inl (q2, u2) ↦
                    u ∙ u2 ∙ ap (with_found p.tables sd (only c v)) (a.domains sd ws)
                    ∙ sent_more p r sd (t sd) j c v (after sd (t sd)) refl refl ns
                    ∙ ap (λ x. with_joins p r x (t x) (one_more j c) (after x (t x))) (sym q2)
                | inr (q2, u2) ↦
                    u ∙ u2 ∙ a.domains e h
                    ∙ other_more p r e (t e) j c (after e (t e)) (λ x. q2 (sym x)) (λ x. q (sym x))
              ]
            ];
        counts = λ b.
            let row = record_of (join_of r c i) in
            elim (put_cases j c (suc i) b) [
              | inl (q, u) ↦
                  ap (λ x. length (put_at s.joins c (s.joins c ++ row ∷ []) x)) q
                  ∙ ap length (put_here s.joins c (s.joins c ++ row ∷ []))
                  ∙ (let k = length-append (s.joins c) (row ∷ []) in let k2 = a.counts c in omega arith)
              | inr (q, u) ↦ ap length (put_apart s.joins c (s.joins c ++ row ∷ []) b q) ∙ a.counts b ∙ sym u
            ];
      };
    }

-- where it comes to: no event is left
pub record Reaches (p : Setup) (r : RunState) (after : ℕ → ℕ → DomainState) (order : List Event) (old : SystemState) : Type 0 where
  pub end : SystemState
  pub steps : MakesAll p r old order end
  pub t : ℕ → ℕ
  pub j : ℕ → ℕ
  pub at_end : IsAt p r after t j [] end

then_reaches : (p : Setup) (r : RunState) (after : ℕ → ℕ → DomainState) (e : Event) (left : List Event) (old : SystemState) (x : Passes p r after e left old) →
    Reaches p r after left x.new → Reaches p r after (e ∷ left) old
then_reaches p r after e left old x y = record { end = y.end; steps = (x.new, x.step, y.steps); t = y.t; j = y.j; at_end = y.at_end }

reaches : (p : Setup) (r : RunState) (g : Given p r) (order : List Event) (t j : ℕ → ℕ) (s : SystemState) → IsAt p r g.own.after t j order s → Ascends r order → Reaches p r g.own.after order s
reaches p r g [] t j s a o = record { end = s; steps = refl; t = t; j = j; at_end = a }
reaches p r g (TickOf d n ∷ left) t j s a o =
    let P : ℕ → Type 0 = λ m. IsAt p r g.own.after t j (TickOf d m ∷ left) s → Ascends r (TickOf d m ∷ left) → Passes p r g.own.after (TickOf d m) left s in
    let x = subst P (sym (tick_is_next p r g t j d n left s a o)) (tick_passes p r g t j d left s) a o in
    then_reaches p r g.own.after (TickOf d n) left s x (reaches p r g left x.t x.j x.new x.at_new o.1)
reaches p r g (JoinOf c i ∷ left) t j s a o =
    let P : ℕ → Type 0 = λ m. IsAt p r g.own.after t j (JoinOf c m ∷ left) s → Ascends r (JoinOf c m ∷ left) → Passes p r g.own.after (JoinOf c m) left s in
    let x = subst P (sym (join_is_next p r g t j c i left s a o)) (join_passes p r g t j c left s) a o in
    then_reaches p r g.own.after (JoinOf c i) left s x (reaches p r g left x.t x.j x.new x.at_new o.1)

starts : (p : Setup) (r : RunState) (g : Given p r) (order : List Event) → IsStampOrder r order → IsAt p r g.own.after (λ d. 0) (λ c. 0) order (start p)
starts p r g order o =
    record {
      tick_left = λ d n i. let e = (o.all (TickOf d n)).0 i in (e.0, omega arith, e.1);
      tick_comes = λ d n h k v. (o.all (TickOf d n)).1 (h, v);
      join_left = λ c n i. let e = (o.all (JoinOf c n)).0 i in (e.0, omega arith, e.1);
      join_comes = λ c n h k v. (o.all (JoinOf c n)).1 (h, v);
      joins_within = λ c. omega arith;
      ticks_within = λ d. omega arith;
      sender_later = λ c i h k. omega arith;
      receiver_later = λ c i h k. omega arith;
      sender_earlier = λ c i h. absurd (omega arith);
      receiver_earlier = λ c i h. absurd (omega arith);
      domains = λ d h. sym (joins_none p r d 0 (λ c. 0) (g.own.after d 0) (λ c i e k. absurd (omega arith)) (λ c i e k. absurd (omega arith)) ∙ (g.own.own d h).begins);
      counts = λ c. refl;
    }

-- in the end each domain has made all of its ticks
all_ticks : (p : Setup) (r : RunState) (g : Given p r) (t j : ℕ → ℕ) (s : SystemState) → IsAt p r g.own.after t j [] s → (d : ℕ) → d < domain_count p → t d ≡ tick_count r d
all_ticks p r g t j s a d h =
    let fit = g.fits.logs in
    let w = a.ticks_within d in
    elim (cases_lt (t d) (tick_count r d)) [
      | inl l ↦ absurd (a.tick_comes d (t d) (omega arith) (omega arith) l)
      | inr l ↦ omega arith
    ]

pub own_runs_are_legal : (p : Setup) (r : RunState) → IsSystem p → Fits p r → HasStamps p r → (own : HasOwnRuns p r) → EndsLegally p r own
own_runs_are_legal p r sys fit st own =
    let g : Given p r = record { system = sys; fits = fit; stamps = st; own = own } in
    let o = has_order r in
    let x = reaches p r g o.0 (λ d. 0) (λ c. 0) (start p) (starts p r g o.0 o.1) o.1.ascends in
    let a = x.at_end in
    let none : (c i : ℕ) → x.j c ≤ i → i < join_count r c → ⊥ = λ c i h k. a.join_comes c i (channel_of r c i k) h k in
    let domains : (d : ℕ) → d < domain_count p → x.end.domain d ≡ own_end p r own d =
    λ d h.
    a.domains d h
    ∙ ap (λ n. with_joins p r d n x.j (own.after d n)) (all_ticks p r g x.t x.j x.end a d h)
    ∙ sym (joins_same p r d (tick_count r d) x.j (join_count r) (own.after d (tick_count r d)) a.joins_within
    (λ c i q k l m. none c i k l) (λ c i q k l m. none c i k l)) in
    record {
      end = x.end;
      legal = record {
        fits = fit;
        stamps = st;
        order = o.0;
        sorted = o.1;
        steps = x.steps;
        marks = λ d h. (own.own d h).mark ∙ sym (ap (λ s. s.mark) (domains d h));
      };
      domains = domains;
    }

pub own_end-ticks : (p : Setup) (r : RunState) → IsSystem p → Fits p r → HasStamps p r → (own : HasOwnRuns p r) → (d : ℕ) → d < domain_count p → (own_end p r own d).ticks ≡ tick_count r d
own_end-ticks p r sys fit st own d h = own_ticks p r (record { system = sys; fits = fit; stamps = st; own = own }) d (tick_count r d) h (omega arith)
