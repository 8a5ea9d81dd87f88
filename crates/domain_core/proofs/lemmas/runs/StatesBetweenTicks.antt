-- The state of a domain between two ticks, from some of its joins to more of them.
use Rattle.std.proofs.Common.{◌≡◌, ◌≢◌, ℕ, zero, suc, ◌<◌, ◌≤◌, ℤ, false, Some, None, refl, sym, ap, ◌∙◌, subst, inl, inr, arith, ◌⊎◌}
use Rattle.std.specs.Prelude.{◌&&◌, ◌==◌, is_some}
use Rattle.std.proofs.lemmas.Bool.{cases_lt, cases_eq, eq-eqb, ne_eqb, true≢false, cond-true, cond-false, and_right}
use Rattle.domain_core.specs.definitions.runs.Systems.{with_found, only, Setup, sender_of, receiver_of}
use Rattle.kernel_rules.specs.definitions.LegalTick.{DomainState}
use Rattle.kernel_rules.specs.definitions.Signals.{put_at}
use Rattle.tick_log.specs.definitions.Runs.{RunState}
use Rattle.domain_core.specs.definitions.runs.OwnRuns.{value_beside, sender_ticks_at, receiver_ticks_at, value_at, own_ticks_at, found_after, with_joins}
use Rattle.domain_core.proofs.lemmas.runs.FoundJoins.{IsOwn, or_found, found_same, found_none, found_both, only_here, only_apart}

pub put_here : {X : Type 0} (f : ℕ → X) (n : ℕ) (x : X) → put_at f n x n ≡ x
put_here f n x = cond-true (n == n) x (f n) (eq-eqb n n refl)

pub put_apart : {X : Type 0} (f : ℕ → X) (n : ℕ) (x : X) (k : ℕ) → k ≢ n → put_at f n x k ≡ f k
put_apart f n x k h = cond-false (k == n) x (f k) (ne_eqb k n h)

-- where no number of the places in between is n
beside_same : (f : ℕ → ℕ) (v : ℕ → ℤ) (n j k : ℕ) → j ≤ k → ((i : ℕ) → j ≤ i → i < k → f i ≢ n) → value_beside f v n k ≡ value_beside f v n j
beside_same f v n j zero h g = let e : j ≡ zero = omega arith in ap (value_beside f v n) (sym e)
beside_same f v n j (suc k) h g = elim (cases_lt k j) [
  | inl l ↦ let e : j ≡ suc k = omega arith in ap (value_beside f v n) (sym e)
  | inr l ↦
      cond-false (f k == n) (Some (v k)) (value_beside f v n k) (ne_eqb (f k) n (g k l (omega arith)))
      ∙ beside_same f v n j k l (λ i a b. g i a (omega arith))
]

pub beside_none : (f : ℕ → ℕ) (v : ℕ → ℤ) (n k : ℕ) → ((i : ℕ) → i < k → f i ≢ n) → value_beside f v n k ≡ None
beside_none f v n k g = beside_same f v n zero k (omega arith) (λ i a b. g i b)

pub beside_absent : (f : ℕ → ℕ) (v : ℕ → ℤ) (n k : ℕ) → is_some (value_beside f v n k) ≡ false → (i : ℕ) → i < k → f i ≢ n
beside_absent f v n zero e i h = absurd (omega arith)
beside_absent f v n (suc k) e i h = elim (cases_eq (f k) n) [
  | inl q ↦ absurd (true≢false (sym (ap is_some (cond-true (f k == n) (Some (v k)) (value_beside f v n k) (eq-eqb (f k) n q))) ∙ e))
  | inr q ↦ elim (cases_lt i k) [
    | inl l ↦ beside_absent f v n k (sym (ap is_some (cond-false (f k == n) (Some (v k)) (value_beside f v n k) (ne_eqb (f k) n q))) ∙ e) i l
    | inr l ↦ let same : i ≡ k = omega arith in λ x. q (ap f (sym same) ∙ x)
  ]
]

-- the numbers of ticks at a domain's own end
pub own_sender : (p : Setup) (r : RunState) (d c : ℕ) → sender_of p c ≡ d → own_ticks_at p r d c ≡ sender_ticks_at r c
own_sender p r d c e = cond-true (sender_of p c == d) (sender_ticks_at r c) (receiver_ticks_at r c) (eq-eqb (sender_of p c) d e)

pub own_receiver : (p : Setup) (r : RunState) (d c : ℕ) → sender_of p c ≢ d → own_ticks_at p r d c ≡ receiver_ticks_at r c
own_receiver p r d c e = cond-false (sender_of p c == d) (sender_ticks_at r c) (receiver_ticks_at r c) (ne_eqb (sender_of p c) d e)

own_apart : (p : Setup) (r : RunState) (d n c i : ℕ) → (sender_of p c ≡ d → sender_ticks_at r c i ≢ n) → (receiver_of p c ≡ d → receiver_ticks_at r c i ≢ n) → IsOwn p.tables d c →
    own_ticks_at p r d c i ≢ n
own_apart p r d n c i a b own = elim (cases_eq (sender_of p c) d) [
  | inl e ↦ λ x. a e (ap (λ f. f i) (sym (own_sender p r d c e)) ∙ x)
  | inr e ↦ elim own [ inl q ↦ absurd (e q) | inr q ↦ λ x. b q (ap (λ f. f i) (sym (own_receiver p r d c e)) ∙ x) ]
]

-- joins of other numbers make no difference
pub joins_same : (p : Setup) (r : RunState) (d n : ℕ) (j k : ℕ → ℕ) (s : DomainState) → ((c : ℕ) → j c ≤ k c) →
    ((c i : ℕ) → sender_of p c ≡ d → j c ≤ i → i < k c → sender_ticks_at r c i ≢ n) →
    ((c i : ℕ) → receiver_of p c ≡ d → j c ≤ i → i < k c → receiver_ticks_at r c i ≢ n) →
    with_joins p r d n k s ≡ with_joins p r d n j s
joins_same p r d n j k s h a b =
    found_same p.tables d (found_after p r d n k) (found_after p r d n j) s
    (λ c own. beside_same (own_ticks_at p r d c) (value_at r c) n (j c) (k c) (h c) (λ i l m. own_apart p r d n c i (λ q. a c i q l m) (λ q. b c i q l m) own))

pub joins_none : (p : Setup) (r : RunState) (d n : ℕ) (k : ℕ → ℕ) (s : DomainState) →
    ((c i : ℕ) → sender_of p c ≡ d → i < k c → sender_ticks_at r c i ≢ n) →
    ((c i : ℕ) → receiver_of p c ≡ d → i < k c → receiver_ticks_at r c i ≢ n) →
    with_joins p r d n k s ≡ s
joins_none p r d n k s a b =
    found_none p.tables d (found_after p r d n k) s
    (λ c own. beside_none (own_ticks_at p r d c) (value_at r c) n (k c) (λ i m. own_apart p r d n c i (λ q. a c i q m) (λ q. b c i q m) own))

-- nothing is found at an end whose joins so far have other numbers
pub none_sent : (p : Setup) (r : RunState) (n : ℕ) (j : ℕ → ℕ) (c : ℕ) → ((i : ℕ) → i < j c → sender_ticks_at r c i ≢ n) →
    ((sender_of p c == sender_of p c) && is_some (found_after p r (sender_of p c) n j c)) ≡ false
none_sent p r n j c h =
    and_right (sender_of p c == sender_of p c) _
    (ap is_some (beside_none (own_ticks_at p r (sender_of p c) c) (value_at r c) n (j c) (λ i l x. h i l (ap (λ f. f i) (sym (own_sender p r (sender_of p c) c refl)) ∙ x))))

pub none_got : (p : Setup) (r : RunState) (n : ℕ) (j : ℕ → ℕ) (c : ℕ) → sender_of p c ≢ receiver_of p c → ((i : ℕ) → i < j c → receiver_ticks_at r c i ≢ n) →
    ((receiver_of p c == receiver_of p c) && is_some (found_after p r (receiver_of p c) n j c)) ≡ false
none_got p r n j c apart h =
    and_right (receiver_of p c == receiver_of p c) _
    (ap is_some (beside_none (own_ticks_at p r (receiver_of p c) c) (value_at r c) n (j c) (λ i l x. h i l (ap (λ f. f i) (sym (own_receiver p r (receiver_of p c) c apart)) ∙ x))))

-- one join more of channel c
abbrev pub one_more : (ℕ → ℕ) → ℕ → ℕ → ℕ
one_more j c = put_at j c (suc (j c))

more_here : (p : Setup) (r : RunState) (d n : ℕ) (j : ℕ → ℕ) (c : ℕ) (v : ℤ) → v ≡ value_at r c (j c) → own_ticks_at p r d c (j c) ≡ n →
    or_found (only c v c) (found_after p r d n j c) ≡ found_after p r d n (one_more j c) c
more_here p r d n j c v vq h =
    ap (λ z. or_found z (found_after p r d n j c)) (only_here c v)
    ∙ ap Some vq
    ∙ sym (ap (value_beside (own_ticks_at p r d c) (value_at r c) n) (put_here j c (suc (j c)))
    ∙ cond-true (own_ticks_at p r d c (j c) == n) (Some (value_at r c (j c))) _ (eq-eqb (own_ticks_at p r d c (j c)) n h))

own_more : (p : Setup) (r : RunState) (d n : ℕ) (j : ℕ → ℕ) (c : ℕ) (v : ℤ) (s : DomainState) → v ≡ value_at r c (j c) → own_ticks_at p r d c (j c) ≡ n →
    with_found p.tables d (only c v) (with_joins p r d n j s) ≡ with_joins p r d n (one_more j c) s
own_more p r d n j c v s vq h =
    found_both p.tables d (only c v) (found_after p r d n j) s
    ∙ found_same p.tables d _ (found_after p r d n (one_more j c)) s (λ k own. elim (cases_eq k c) [
      | inl q ↦ subst (λ z. or_found (only c v z) (found_after p r d n j z) ≡ found_after p r d n (one_more j c) z) (sym q) (more_here p r d n j c v vq h)
      | inr q ↦
          ap (λ z. or_found z (found_after p r d n j k)) (only_apart c v k q)
          ∙ sym (ap (value_beside (own_ticks_at p r d k) (value_at r k) n) (put_apart j c (suc (j c)) k q))
    ])

-- a join at the sender, at the receiver and at any other domain
pub sent_more : (p : Setup) (r : RunState) (d n : ℕ) (j : ℕ → ℕ) (c : ℕ) (v : ℤ) (s : DomainState) → v ≡ value_at r c (j c) → sender_of p c ≡ d → sender_ticks_at r c (j c) ≡ n →
    with_found p.tables d (only c v) (with_joins p r d n j s) ≡ with_joins p r d n (one_more j c) s
sent_more p r d n j c v s vq e h = own_more p r d n j c v s vq (ap (λ f. f (j c)) (own_sender p r d c e) ∙ h)

pub got_more : (p : Setup) (r : RunState) (d n : ℕ) (j : ℕ → ℕ) (c : ℕ) (v : ℤ) (s : DomainState) → v ≡ value_at r c (j c) → sender_of p c ≢ d → receiver_ticks_at r c (j c) ≡ n →
    with_found p.tables d (only c v) (with_joins p r d n j s) ≡ with_joins p r d n (one_more j c) s
got_more p r d n j c v s vq e h = own_more p r d n j c v s vq (ap (λ f. f (j c)) (own_receiver p r d c e) ∙ h)

pub other_more : (p : Setup) (r : RunState) (d n : ℕ) (j : ℕ → ℕ) (c : ℕ) (s : DomainState) → sender_of p c ≢ d → receiver_of p c ≢ d →
    with_joins p r d n j s ≡ with_joins p r d n (one_more j c) s
other_more p r d n j c s e f =
    found_same p.tables d (found_after p r d n j) (found_after p r d n (one_more j c)) s (λ k own.
    let q : k ≢ c = λ q. elim own [ inl o ↦ e (ap (sender_of p) (sym q) ∙ o) | inr o ↦ f (ap (receiver_of p) (sym q) ∙ o) ] in
    sym (ap (value_beside (own_ticks_at p r d k) (value_at r k) n) (put_apart j c (suc (j c)) k q)))

pub put_cases : {X : Type 0} (f : ℕ → X) (n : ℕ) (x : X) (k : ℕ) → ((k ≡ n) × (put_at f n x k ≡ x)) ⊎ ((k ≢ n) × (put_at f n x k ≡ f k))
put_cases f n x k = elim (cases_eq k n) [ inl e ↦ inl (e, ap (put_at f n x) e ∙ put_here f n x) | inr e ↦ inr (e, put_apart f n x k e) ]

pub put_more : (f : ℕ → ℕ) (n k : ℕ) → f k ≤ put_at f n (suc (f n)) k
put_more f n k = elim (put_cases f n (suc (f n)) k) [ inl (e, q) ↦ let w = ap f e in omega arith | inr (e, q) ↦ omega arith ]

-- a join: the two domains and all others
pub joined_domains : (p : Setup) (r : RunState) (after : ℕ → ℕ → DomainState) (t j : ℕ → ℕ) (domain : ℕ → DomainState) (c : ℕ) (v : ℤ) (e : ℕ) → v ≡ value_at r c (j c) →
    domain (sender_of p c) ≡ with_joins p r (sender_of p c) (t (sender_of p c)) j (after (sender_of p c) (t (sender_of p c))) →
    domain (receiver_of p c) ≡ with_joins p r (receiver_of p c) (t (receiver_of p c)) j (after (receiver_of p c) (t (receiver_of p c))) →
    domain e ≡ with_joins p r e (t e) j (after e (t e)) →
    sender_of p c ≢ receiver_of p c → sender_ticks_at r c (j c) ≡ t (sender_of p c) → receiver_ticks_at r c (j c) ≡ t (receiver_of p c) →
    put_at (put_at domain (sender_of p c) (with_found p.tables (sender_of p c) (only c v) (domain (sender_of p c))))
    (receiver_of p c) (with_found p.tables (receiver_of p c) (only c v) (domain (receiver_of p c))) e ≡
    with_joins p r e (t e) (one_more j c) (after e (t e))
joined_domains p r after t j domain c v e vq sq rq eq apart ns nr =
    let sd = sender_of p c in
    let rd = receiver_of p c in
    let sent = with_found p.tables sd (only c v) in
    let got = with_found p.tables rd (only c v) in
    let mid = put_at domain sd (sent (domain sd)) in
    elim (put_cases mid rd (got (domain rd)) e) [
      | inl (q, u) ↦
          u ∙ ap got rq
          ∙ got_more p r rd (t rd) j c v (after rd (t rd)) vq apart nr
          ∙ ap (λ x. with_joins p r x (t x) (one_more j c) (after x (t x))) (sym q)
      | inr (q, u) ↦ elim (put_cases domain sd (sent (domain sd)) e) [
        | inl (q2, u2) ↦
            u ∙ u2 ∙ ap sent sq
            ∙ sent_more p r sd (t sd) j c v (after sd (t sd)) vq refl ns
            ∙ ap (λ x. with_joins p r x (t x) (one_more j c) (after x (t x))) (sym q2)
        | inr (q2, u2) ↦ u ∙ u2 ∙ eq ∙ other_more p r e (t e) j c (after e (t e)) (λ x. q2 (sym x)) (λ x. q (sym x))
      ]
    ]
