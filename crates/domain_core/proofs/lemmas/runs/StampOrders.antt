-- Each run has its list in stamp order.
use Rattle.std.proofs.Common.{◌≡◌, ℕ, zero, suc, ◌+◌, ◌<◌, ◌≤◌, List, [], ◌∷◌, length, sym, ap, ◌∙◌, subst, inl, inr, arith, ◌⊎◌}
use Rattle.std.proofs.lemmas.Bool.{cases_order, cases_lt}
use Rattle.domain_core.specs.definitions.runs.StampBound.{sum_below, event_count}
use Rattle.tick_log.specs.definitions.Runs.{RunState, tick_count, join_count}
use Rattle.tick_log.specs.definitions.StampOrder.{Event, TickOf, JoinOf, IsEventOf, stamp_of, Smaller, BeforeAtOneStamp, IsBefore, by_stamp, at_one_stamp, IsIn, Ascends, IsStampOrder}

smaller_cases : (a m b n : ℕ) → Smaller a m b n ⊎ (((a ≡ b) × (m ≡ n)) ⊎ Smaller b n a m)
smaller_cases a m b n = elim (cases_order a b) [
  | inl e ↦ elim (cases_order m n) [
    | inl f ↦ inr (inl (e, f))
    | inr g ↦ elim g [ inl l ↦ inl (inr (e, l)) | inr l ↦ inr (inr (inr (sym e, l))) ]
  ]
  | inr g ↦ elim g [ inl l ↦ inl (inl l) | inr l ↦ inr (inr (inl l)) ]
]

event_cases : (e f : Event) → BeforeAtOneStamp e f ⊎ ((e ≡ f) ⊎ BeforeAtOneStamp f e)
event_cases (TickOf d m) (TickOf e n) = elim (smaller_cases d m e n) [
  | inl h ↦ inl h
  | inr g ↦ elim g [ inl h ↦ inr (inl (cc (h.0, h.1))) | inr h ↦ inr (inr h) ]
]
event_cases (TickOf d m) (JoinOf c i) = inl tt
event_cases (JoinOf c i) (TickOf d m) = inr (inr tt)
event_cases (JoinOf c i) (JoinOf b j) = elim (smaller_cases c i b j) [
  | inl h ↦ inl h
  | inr g ↦ elim g [ inl h ↦ inr (inl (cc (h.0, h.1))) | inr h ↦ inr (inr h) ]
]

pub before_cases : (r : RunState) (e f : Event) → IsBefore r e f ⊎ ((e ≡ f) ⊎ IsBefore r f e)
before_cases r e f = elim (cases_order (stamp_of r e) (stamp_of r f)) [
  | inl s ↦ elim (event_cases e f) [
    | inl h ↦ inl (at_one_stamp s h)
    | inr g ↦ elim g [ inl h ↦ inr (inl h) | inr h ↦ inr (inr (at_one_stamp (sym s) h)) ]
  ]
  | inr g ↦ elim g [ inl l ↦ inl (by_stamp l) | inr l ↦ inr (inr (by_stamp l)) ]
]

smaller_on : (a m b n c o : ℕ) → Smaller a m b n → Smaller b n c o → Smaller a m c o
smaller_on a m b n c o (inl h) (inl k) = inl (omega arith)
smaller_on a m b n c o (inl h) (inr k) = inl (omega arith)
smaller_on a m b n c o (inr h) (inl k) = inl (omega arith)
smaller_on a m b n c o (inr h) (inr k) = inr (h.0 ∙ k.0, omega arith)

event_on : (e f g : Event) → BeforeAtOneStamp e f → BeforeAtOneStamp f g → BeforeAtOneStamp e g
event_on (TickOf d m) (TickOf e n) (TickOf f o) h k = smaller_on d m e n f o h k
event_on (TickOf d m) (TickOf e n) (JoinOf c i) h k = tt
event_on (TickOf d m) (JoinOf c i) (TickOf e n) h k = absurd k
event_on (TickOf d m) (JoinOf c i) (JoinOf b j) h k = tt
event_on (JoinOf c i) (TickOf d m) g h k = absurd h
event_on (JoinOf c i) (JoinOf b j) (TickOf d m) h k = absurd k
event_on (JoinOf c i) (JoinOf b j) (JoinOf a l) h k = smaller_on c i b j a l h k

pub before_on : (r : RunState) (e f g : Event) → IsBefore r e f → IsBefore r f g → IsBefore r e g
before_on r e f g (by_stamp h) (by_stamp k) = by_stamp (omega arith)
before_on r e f g (by_stamp h) (at_one_stamp s k) = by_stamp (omega arith)
before_on r e f g (at_one_stamp s h) (by_stamp k) = by_stamp (omega arith)
before_on r e f g (at_one_stamp s h) (at_one_stamp t k) = at_one_stamp (s ∙ t) (event_on e f g h k)

-- no event is before itself
smaller_self : (a m : ℕ) → Smaller a m a m → ⊥
smaller_self a m (inl h) = omega arith
smaller_self a m (inr h) = omega arith

event_self : (e : Event) → BeforeAtOneStamp e e → ⊥
event_self (TickOf d m) h = smaller_self d m h
event_self (JoinOf c i) h = smaller_self c i h

pub before_self : (r : RunState) (e : Event) → IsBefore r e e → ⊥
before_self r e (by_stamp h) = omega arith
before_self r e (at_one_stamp s h) = event_self e h

-- the list f ∷ fs with an event put in at its place, unless it stands there; `more` is fs with it put in
abbrev put_on : (r : RunState) (e f : Event) (fs more : List Event) → IsBefore r e f ⊎ ((e ≡ f) ⊎ IsBefore r f e) → List Event
put_on r e f fs more (inl h) = e ∷ f ∷ fs
put_on r e f fs more (inr (inl h)) = f ∷ fs
put_on r e f fs more (inr (inr h)) = f ∷ more

abbrev put_in : RunState → Event → List Event → List Event
put_in r e [] = e ∷ []
put_in r e (f ∷ fs) = put_on r e f fs (put_in r e fs) (before_cases r e f)

on_has : (r : RunState) (e f : Event) (fs more : List Event) (c : IsBefore r e f ⊎ ((e ≡ f) ⊎ IsBefore r f e)) (x : Event) → (IsIn x more → (x ≡ e) ⊎ IsIn x fs) →
    IsIn x (put_on r e f fs more c) → (x ≡ e) ⊎ ((x ≡ f) ⊎ IsIn x fs)
on_has r e f fs more (inl h) x k m = m
on_has r e f fs more (inr (inl h)) x k m = inr m
on_has r e f fs more (inr (inr h)) x k (inl m) = inr (inl m)
on_has r e f fs more (inr (inr h)) x k (inr m) = elim (k m) [ inl a ↦ inl a | inr a ↦ inr (inr a) ]

on_takes : (r : RunState) (e f : Event) (fs more : List Event) (c : IsBefore r e f ⊎ ((e ≡ f) ⊎ IsBefore r f e)) (x : Event) → ((x ≡ e) ⊎ IsIn x fs → IsIn x more) →
    (x ≡ e) ⊎ ((x ≡ f) ⊎ IsIn x fs) → IsIn x (put_on r e f fs more c)
on_takes r e f fs more (inl h) x k m = m
on_takes r e f fs more (inr (inl h)) x k (inl m) = inl (m ∙ h)
on_takes r e f fs more (inr (inl h)) x k (inr m) = m
on_takes r e f fs more (inr (inr h)) x k (inl m) = inr (k (inl m))
on_takes r e f fs more (inr (inr h)) x k (inr (inl m)) = inl m
on_takes r e f fs more (inr (inr h)) x k (inr (inr m)) = inr (k (inr m))

put_in-has : (r : RunState) (e : Event) (fs : List Event) (x : Event) → IsIn x (put_in r e fs) → (x ≡ e) ⊎ IsIn x fs
put_in-has r e [] x h = h
put_in-has r e (f ∷ fs) x h = on_has r e f fs (put_in r e fs) (before_cases r e f) x (put_in-has r e fs x) h

put_in-takes : (r : RunState) (e : Event) (fs : List Event) (x : Event) → (x ≡ e) ⊎ IsIn x fs → IsIn x (put_in r e fs)
put_in-takes r e [] x h = h
put_in-takes r e (f ∷ fs) x h = on_takes r e f fs (put_in r e fs) (before_cases r e f) x (put_in-takes r e fs x) h

on_ascends : (r : RunState) (e f : Event) (fs more : List Event) (c : IsBefore r e f ⊎ ((e ≡ f) ⊎ IsBefore r f e)) → ((x : Event) → IsIn x more → (x ≡ e) ⊎ IsIn x fs) → Ascends r more →
    Ascends r (f ∷ fs) → Ascends r (put_on r e f fs more c)
on_ascends r e f fs more (inl h) k m a =
    ((λ x i. elim i [ inl q ↦ subst (IsBefore r e) (sym q) h | inr q ↦ before_on r e f x h (a.0 x q) ]), a)
on_ascends r e f fs more (inr (inl h)) k m a = a
on_ascends r e f fs more (inr (inr h)) k m a =
    ((λ x i. elim (k x i) [ inl q ↦ subst (IsBefore r f) (sym q) h | inr q ↦ a.0 x q ]), m)

put_in-ascends : (r : RunState) (e : Event) (fs : List Event) → Ascends r fs → Ascends r (put_in r e fs)
put_in-ascends r e [] h = ((λ x i. absurd i), tt)
put_in-ascends r e (f ∷ fs) h = on_ascends r e f fs (put_in r e fs) (before_cases r e f) (put_in-has r e fs) (put_in-ascends r e fs h.1) h

-- a list of all events, in no order: those of the first k domains, and of the first k channels
abbrev numbers : (ℕ → Event) → ℕ → List Event → List Event
numbers f zero rest = rest
numbers f (suc n) rest = f n ∷ numbers f n rest

numbers-has : (f : ℕ → Event) (n : ℕ) (rest : List Event) (x : Event) → IsIn x (numbers f n rest) → ((k : ℕ) × (k < n) × (x ≡ f k)) ⊎ IsIn x rest
numbers-has f zero rest x h = inr h
numbers-has f (suc n) rest x (inl h) = inl (n, omega arith, h)
numbers-has f (suc n) rest x (inr h) = elim (numbers-has f n rest x h) [ inl q ↦ inl (q.0, omega arith, q.2) | inr q ↦ inr q ]

numbers-keeps : (f : ℕ → Event) (n : ℕ) (rest : List Event) (x : Event) → IsIn x rest → IsIn x (numbers f n rest)
numbers-keeps f zero rest x h = h
numbers-keeps f (suc n) rest x h = inr (numbers-keeps f n rest x h)

numbers-takes : (f : ℕ → Event) (n : ℕ) (rest : List Event) (k : ℕ) → k < n → IsIn (f k) (numbers f n rest)
numbers-takes f zero rest k h = absurd (omega arith)
numbers-takes f (suc n) rest k h = elim (cases_lt k n) [ inl l ↦ inr (numbers-takes f n rest k l) | inr g ↦ let e : k ≡ n = omega arith in inl (ap f e) ]

abbrev groups : (ℕ → ℕ → Event) → (ℕ → ℕ) → ℕ → List Event → List Event
groups f size zero rest = rest
groups f size (suc n) rest = numbers (f n) (size n) (groups f size n rest)

groups-has : (f : ℕ → ℕ → Event) (size : ℕ → ℕ) (n : ℕ) (rest : List Event) (x : Event) → IsIn x (groups f size n rest) → ((d : ℕ) × (k : ℕ) × (d < n) × (k < size d) × (x ≡ f d k)) ⊎ IsIn x rest
groups-has f size zero rest x h = inr h
groups-has f size (suc n) rest x h = elim (numbers-has (f n) (size n) (groups f size n rest) x h) [
  | inl q ↦ inl (n, q.0, omega arith, q.1, q.2)
  | inr q ↦ elim (groups-has f size n rest x q) [ inl o ↦ inl (o.0, o.1, omega arith, o.3, o.4) | inr o ↦ inr o ]
]

groups-keeps : (f : ℕ → ℕ → Event) (size : ℕ → ℕ) (n : ℕ) (rest : List Event) (x : Event) → IsIn x rest → IsIn x (groups f size n rest)
groups-keeps f size zero rest x h = h
groups-keeps f size (suc n) rest x h = numbers-keeps (f n) (size n) (groups f size n rest) x (groups-keeps f size n rest x h)

groups-takes : (f : ℕ → ℕ → Event) (size : ℕ → ℕ) (n : ℕ) (rest : List Event) (d k : ℕ) → d < n → k < size d → IsIn (f d k) (groups f size n rest)
groups-takes f size zero rest d k h g = absurd (omega arith)
groups-takes f size (suc n) rest d k h g = elim (cases_lt d n) [
  | inl l ↦ numbers-keeps (f n) (size n) (groups f size n rest) (f d k) (groups-takes f size n rest d k l g)
  | inr l ↦ let e : d ≡ n = omega arith in
      let P : ℕ → Type 0 = λ m. k < size m → IsIn (f m k) (numbers (f n) (size n) (groups f size n rest)) in
      subst P (sym e) (numbers-takes (f n) (size n) (groups f size n rest) k) g
]

abbrev any_order : RunState → List Event
any_order r = groups TickOf (tick_count r) (length r.logs) (groups JoinOf (join_count r) (length r.histories) [])

any_order-all : (r : RunState) (e : Event) → IsIn e (any_order r) → IsEventOf r e
any_order-all r e h = elim (groups-has TickOf (tick_count r) (length r.logs) (groups JoinOf (join_count r) (length r.histories) []) e h) [
  | inl q ↦ subst (IsEventOf r) (sym q.4) (q.2, q.3)
  | inr q ↦ elim (groups-has JoinOf (join_count r) (length r.histories) [] e q) [ inl o ↦ subst (IsEventOf r) (sym o.4) (o.2, o.3) | inr o ↦ absurd o ]
]

any_order-takes : (r : RunState) (e : Event) → IsEventOf r e → IsIn e (any_order r)
any_order-takes r (TickOf d n) h = groups-takes TickOf (tick_count r) (length r.logs) (groups JoinOf (join_count r) (length r.histories) []) d n h.0 h.1
any_order-takes r (JoinOf c i) h =
    groups-keeps TickOf (tick_count r) (length r.logs) (groups JoinOf (join_count r) (length r.histories) []) (JoinOf c i) (groups-takes JoinOf (join_count r) (length r.histories) [] c i h.0 h.1)

abbrev sorted : RunState → List Event → List Event
sorted r [] = []
sorted r (e ∷ es) = put_in r e (sorted r es)

sorted-has : (r : RunState) (es : List Event) (x : Event) → IsIn x (sorted r es) → IsIn x es
sorted-has r [] x h = h
sorted-has r (e ∷ es) x h = elim (put_in-has r e (sorted r es) x h) [ inl q ↦ inl q | inr q ↦ inr (sorted-has r es x q) ]

sorted-takes : (r : RunState) (es : List Event) (x : Event) → IsIn x es → IsIn x (sorted r es)
sorted-takes r [] x h = h
sorted-takes r (e ∷ es) x (inl h) = put_in-takes r e (sorted r es) x (inl h)
sorted-takes r (e ∷ es) x (inr h) = put_in-takes r e (sorted r es) x (inr (sorted-takes r es x h))

sorted-ascends : (r : RunState) (es : List Event) → Ascends r (sorted r es)
sorted-ascends r [] = tt
sorted-ascends r (e ∷ es) = put_in-ascends r e (sorted r es) (sorted-ascends r es)

pub has_order : (r : RunState) → (order : List Event) × IsStampOrder r order
has_order r = (
  sorted r (any_order r),
  record {
    all = λ e. ((λ h. any_order-all r e (sorted-has r (any_order r) e h)), (λ h. sorted-takes r (any_order r) e (any_order-takes r e h)));
    ascends = sorted-ascends r (any_order r);
  },
)

on_length : (r : RunState) (e f : Event) (fs more : List Event) (c : IsBefore r e f ⊎ ((e ≡ f) ⊎ IsBefore r f e)) → length more ≤ suc (length fs) →
    length (put_on r e f fs more c) ≤ suc (suc (length fs))
on_length r e f fs more (inl h) k = omega arith
on_length r e f fs more (inr (inl h)) k = omega arith
on_length r e f fs more (inr (inr h)) k = omega arith

put_in-length : (r : RunState) (e : Event) (fs : List Event) → length (put_in r e fs) ≤ suc (length fs)
put_in-length r e [] = omega arith
put_in-length r e (f ∷ fs) = on_length r e f fs (put_in r e fs) (before_cases r e f) (put_in-length r e fs)

sorted-length : (r : RunState) (es : List Event) → length (sorted r es) ≤ length es
sorted-length r [] = omega arith
sorted-length r (e ∷ es) = let k = sorted-length r es in let l = put_in-length r e (sorted r es) in omega arith

numbers-length : (f : ℕ → Event) (n : ℕ) (rest : List Event) → length (numbers f n rest) ≡ n + length rest
numbers-length f zero rest = omega arith
numbers-length f (suc n) rest = let k = numbers-length f n rest in omega arith

groups-length : (f : ℕ → ℕ → Event) (size : ℕ → ℕ) (n : ℕ) (rest : List Event) → length (groups f size n rest) ≡ sum_below size n + length rest
groups-length f size zero rest = omega arith
groups-length f size (suc n) rest = let k = groups-length f size n rest in let l = numbers-length (f n) (size n) (groups f size n rest) in omega arith

pub has_order-length : (r : RunState) → length (has_order r).0 ≤ event_count r
unfolding has_order
has_order-length r =
    let k = sorted-length r (any_order r) in
    let l = groups-length TickOf (tick_count r) (length r.logs) (groups JoinOf (join_count r) (length r.histories) []) in
    let m = groups-length JoinOf (join_count r) (length r.histories) [] in
    omega arith
