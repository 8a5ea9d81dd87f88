-- A run has one list in stamp order.
use Rattle.std.proofs.Common.{◌≡◌, ℕ, zero, suc, List, [], ◌∷◌, refl, sym, ap, ◌∙◌, subst, inl, inr, arith, ◌⊎◌}
use Rattle.std.specs.Prelude.{◌↔◌}
use Rattle.tick_log.specs.definitions.Runs.{RunState}
use Rattle.tick_log.specs.definitions.StampOrder.{Event, TickOf, JoinOf, IsEventOf, stamp_of, IsBefore, by_stamp, at_one_stamp, IsIn, Ascends, IsStampOrder}
use Rattle.domain_core.specs.Rows.{rendezvous_run, join_between, join_last}
use Rattle.domain_core.proofs.lemmas.runs.StampOrders.{before_on, before_self}

-- the first events of two lists with the same members are the same
one_first : (r : RunState) (e f : Event) (es fs : List Event) → ((g : Event) → IsIn g es → IsBefore r e g) → ((g : Event) → IsIn g fs → IsBefore r f g) →
    (e ≡ f) ⊎ IsIn e fs → (f ≡ e) ⊎ IsIn f es → e ≡ f
one_first r e f es fs a b (inl h) k = h
one_first r e f es fs a b (inr h) (inl k) = sym k
one_first r e f es fs a b (inr h) (inr k) = absurd (before_self r e (before_on r e f e (a f k) (b e h)))

-- an event that stands after the first one stands after that of the other list too
after_first : (r : RunState) (e f g : Event) (es fs : List Event) → e ≡ f → ((g : Event) → IsIn g es → IsBefore r e g) → IsIn g es → (g ≡ f) ⊎ IsIn g fs → IsIn g fs
after_first r e f g es fs q a h (inl k) = absurd (before_self r e (subst (λ z. IsBefore r e z) (k ∙ sym q) (a g h)))
after_first r e f g es fs q a h (inr k) = k

pub same_order : (r : RunState) (es fs : List Event) → Ascends r es → Ascends r fs → ((g : Event) → IsIn g es → IsIn g fs) → ((g : Event) → IsIn g fs → IsIn g es) → es ≡ fs
same_order r [] [] a b h k = refl
same_order r [] (f ∷ fs) a b h k = absurd (k f (inl refl))
same_order r (e ∷ es) [] a b h k = absurd (h e (inl refl))
same_order r (e ∷ es) (f ∷ fs) a b h k =
    let q : e ≡ f = one_first r e f es fs a.0 b.0 (h e (inl refl)) (k f (inl refl)) in
    let rest : es ≡ fs =
    same_order r es fs a.1 b.1
    (λ g i. after_first r e f g es fs q a.0 i (h g (inr i)))
    (λ g i. after_first r f e g fs es (sym q) b.0 i (k g (inr i))) in
    ap (λ z. z ∷ es) q ∙ ap (λ z. f ∷ z) rest

pub one_order : (r : RunState) (a b : List Event) → IsStampOrder r a → IsStampOrder r b → a ≡ b
one_order r a b h k = same_order r a b h.ascends k.ascends (λ g i. (k.all g).1 ((h.all g).0 i)) (λ g i. (h.all g).1 ((k.all g).0 i))

-- an event comes before all of a list if it comes before its first and before the others
before_none : (r : RunState) (e g : Event) → IsIn g [] → IsBefore r e g
before_none r e g h = absurd h

before_more : (r : RunState) (e f : Event) (fs : List Event) → IsBefore r e f → ((g : Event) → IsIn g fs → IsBefore r e g) → (g : Event) → IsIn g (f ∷ fs) → IsBefore r e g
before_more r e f fs a b g (inl h) = subst (λ z. IsBefore r e z) (sym h) a
before_more r e f fs a b g (inr h) = b g h

-- in a list where each event comes before the next one
abbrev Chain : RunState → Event → List Event → Type 0
Chain r e [] = Unit {0}
Chain r e (f ∷ fs) = IsBefore r e f × Chain r f fs

chain_before : (r : RunState) (e : Event) (es : List Event) → Chain r e es → (g : Event) → IsIn g es → IsBefore r e g
chain_before r e [] h = before_none r e
chain_before r e (f ∷ fs) h = before_more r e f fs h.0 (λ g i. before_on r e f g h.0 (chain_before r f fs h.1 g i))

chain_ascends : (r : RunState) (e : Event) (es : List Event) → Chain r e es → Ascends r (e ∷ es)
chain_ascends r e [] h = (before_none r e, tt)
chain_ascends r e (f ∷ fs) h = (chain_before r e (f ∷ fs) h, chain_ascends r f fs h.1)

-- the events of the rendezvous, whatever the stamp of the second ticks
five : (s : ℕ) (e : Event) → IsEventOf (rendezvous_run s) e → IsIn e join_between
five s (TickOf zero zero) h = inl refl
five s (TickOf zero (suc zero)) h = inr (inr (inr (inl refl)))
five s (TickOf zero (suc (suc n))) h = let k = h.1 in absurd (omega arith)
five s (TickOf (suc zero) zero) h = inr (inl refl)
five s (TickOf (suc zero) (suc zero)) h = inr (inr (inr (inr (inl refl))))
five s (TickOf (suc zero) (suc (suc n))) h = let k = h.1 in absurd (omega arith)
five s (TickOf (suc (suc d)) n) h = let k = h.0 in absurd (omega arith)
five s (JoinOf zero zero) h = inr (inr (inl refl))
five s (JoinOf zero (suc i)) h = let k = h.1 in absurd (omega arith)
five s (JoinOf (suc c) i) h = let k = h.0 in absurd (omega arith)

are_five : (s : ℕ) (e : Event) → IsIn e join_between → IsEventOf (rendezvous_run s) e
are_five s e (inl h) = subst (IsEventOf (rendezvous_run s)) (sym h) (omega arith, omega arith)
are_five s e (inr (inl h)) = subst (IsEventOf (rendezvous_run s)) (sym h) (omega arith, omega arith)
are_five s e (inr (inr (inl h))) = subst (IsEventOf (rendezvous_run s)) (sym h) (omega arith, omega arith)
are_five s e (inr (inr (inr (inl h)))) = subst (IsEventOf (rendezvous_run s)) (sym h) (omega arith, omega arith)
are_five s e (inr (inr (inr (inr (inl h))))) = subst (IsEventOf (rendezvous_run s)) (sym h) (omega arith, omega arith)
are_five s e (inr (inr (inr (inr (inr h))))) = absurd h

-- the two lists have the same members
later : (e : Event) → IsIn e join_between → IsIn e join_last
later e (inl h) = inl h
later e (inr (inl h)) = inr (inl h)
later e (inr (inr (inl h))) = inr (inr (inr (inr (inl h))))
later e (inr (inr (inr (inl h)))) = inr (inr (inl h))
later e (inr (inr (inr (inr (inl h))))) = inr (inr (inr (inl h)))
later e (inr (inr (inr (inr (inr h))))) = absurd h

sooner : (e : Event) → IsIn e join_last → IsIn e join_between
sooner e (inl h) = inl h
sooner e (inr (inl h)) = inr (inl h)
sooner e (inr (inr (inl h))) = inr (inr (inr (inl h)))
sooner e (inr (inr (inr (inl h)))) = inr (inr (inr (inr (inl h))))
sooner e (inr (inr (inr (inr (inl h))))) = inr (inr (inl h))
sooner e (inr (inr (inr (inr (inr h))))) = absurd h

between : IsStampOrder (rendezvous_run 3) join_between
between = record {
  all = λ e. (are_five 3 e, five 3 e);
  ascends =
      chain_ascends (rendezvous_run 3) (TickOf 0 0) (TickOf 1 0 ∷ JoinOf 0 0 ∷ TickOf 0 1 ∷ TickOf 1 1 ∷ [])
      (at_one_stamp refl (inl (omega arith)), (by_stamp (omega arith), (by_stamp (omega arith), (at_one_stamp refl (inl (omega arith)), tt))));
}

last : IsStampOrder (rendezvous_run 2) join_last
last = record {
  all = λ e. ((λ h. are_five 2 e (sooner e h)), (λ h. later e (five 2 e h)));
  ascends =
      chain_ascends (rendezvous_run 2) (TickOf 0 0) (TickOf 1 0 ∷ TickOf 0 1 ∷ TickOf 1 1 ∷ JoinOf 0 0 ∷ [])
      (at_one_stamp refl (inl (omega arith)), (by_stamp (omega arith), (at_one_stamp refl (inl (omega arith)), (at_one_stamp refl tt, tt))));
}

only_order : (r : RunState) (the order : List Event) → IsStampOrder r the → IsStampOrder r order ↔ (order ≡ the)
only_order r the order h = ((λ k. one_order r order the k h), (λ e. subst (IsStampOrder r) (sym e) h))

pub join-between : (order : List Event) → IsStampOrder (rendezvous_run 3) order ↔ (order ≡ join_between)
join-between order = only_order (rendezvous_run 3) join_between order between

pub join-last : (order : List Event) → IsStampOrder (rendezvous_run 2) order ↔ (order ≡ join_last)
join-last order = only_order (rendezvous_run 2) join_last order last

pub later_join : (r : RunState) → stamp_of r (JoinOf 0 1) ≡ stamp_of r (JoinOf 1 0) → IsBefore r (JoinOf 1 0) (JoinOf 0 1) → ⊥
later_join r e (by_stamp less) = absurd (omega arith)
later_join r e (at_one_stamp f (inl less)) = absurd (omega arith)
later_join r e (at_one_stamp f (inr (same, less))) = absurd (omega arith)

pub later_tick : (r : RunState) → stamp_of r (TickOf 0 1) ≡ stamp_of r (TickOf 1 0) → IsBefore r (TickOf 1 0) (TickOf 0 1) → ⊥
later_tick r e (by_stamp less) = absurd (omega arith)
later_tick r e (at_one_stamp f (inl less)) = absurd (omega arith)
later_tick r e (at_one_stamp f (inr (same, less))) = absurd (omega arith)
