-- What the answers at the ends of a domain do to its state.
use Rattle.std.proofs.Common.{◌≡◌, ◌≢◌, ℕ, zero, suc, ◌<◌, ℤ, Bool, true, false, List, get_or, Option, Some, None, refl, sym, ap, ◌∙◌, subst, inl, inr, ◌⊎◌, arith}
use Rattle.std.specs.Prelude.{◌==◌, ◌||◌, max}
use Rattle.std.proofs.Math.Path.{fun_ext}
use Rattle.std.proofs.lemmas.Bool.{cases_eq, ne_eqb, eqb-false}
use Rattle.kernel_terms.specs.Statements.{Stmt}
use Rattle.kernel_rules.specs.definitions.LegalTick.{DomainState}
use Rattle.kernel_rules.specs.definitions.Signals.{put_at}
use Rattle.cell_core.specs.declared.moves.Side.{Side}
use Rattle.cell_core.specs.declared.moves.Side.TheVariants.{Sender, Receiver}
use Rattle.cell_core.specs.declared.moves.Joined.{Joined}
use Rattle.domain_core.specs.declared.step.ends_of.EndOf.{EndOf}
use Rattle.domain_core.specs.definitions.step.EndCalls.{end_at}
use Rattle.domain_core.specs.step.Answers.{raised, raised_by}
use Rattle.domain_core.specs.definitions.runs.Systems.{rewritten}
use Rattle.domain_core.specs.step.Answers.{no_channel}
use Rattle.domain_core.specs.definitions.step.Steps.{Waits, WaitsAs}
use Rattle.domain_core.specs.definitions.runs.Stamps.{stamp_of_join}
use Rattle.domain_core.specs.step.Answers.{side_done, end_done, with_answers}
use Rattle.domain_core.proofs.lemmas.runs.JoinedStatements.{rewritten-both, rewritten-same, still_sends, still_receives, waited_to_send, waited_to_receive}
use Rattle.domain_core.proofs.lemmas.runs.StatesBetweenTicks.{put_here, put_apart}

pub answers_same : (ends : List EndOf) (a b : List (Option Joined)) (n : ℕ) (s : DomainState) → ((k : ℕ) → k < n → get_or a k None ≡ get_or b k None) → with_answers ends a n s ≡ with_answers ends b n s
answers_same ends a b zero s h = refl
answers_same ends a b (suc n) s h =
    ap (λ x. end_done (end_at ends n) x (with_answers ends a n s)) (h n (omega arith))
    ∙ ap (end_done (end_at ends n) (get_or b n None)) (answers_same ends a b n s (λ k l. h k (omega (arith, l))))

pub raised_same : (a b : List (Option Joined)) (n x : ℕ) → ((k : ℕ) → k < n → get_or a k None ≡ get_or b k None) → raised a n x ≡ raised b n x
raised_same a b zero x h = refl
raised_same a b (suc n) x h =
    ap (λ y. raised_by y (raised a n x)) (h n (omega arith)) ∙ ap (raised_by (get_or b n None)) (raised_same a b n x (λ k l. h k (omega (arith, l))))

raise_max : (o : Option Joined) (y z : ℕ) → raised_by o (max y z) ≡ max (raised_by o y) z
raise_max None y z = refl
raise_max (Some j) y z = omega arith

-- of the first n answers b has one more, at m
pub record OneMore (a b : List (Option Joined)) (m n : ℕ) (j : Joined) : Type 0 where
  pub others : (k : ℕ) → k < n → k ≢ m → get_or b k None ≡ get_or a k None
  pub old : get_or a m None ≡ None
  pub new : get_or b m None ≡ Some j

of_fewer : (a b : List (Option Joined)) (m n : ℕ) (j : Joined) → OneMore a b m (suc n) j → OneMore a b m n j
of_fewer a b m n j h = record { others = λ k l. h.others k (omega (arith, l)); old = h.old; new = h.new }

pub raised_more : (a b : List (Option Joined)) (m n x : ℕ) (j : Joined) → OneMore a b m n j → m < n → raised b n x ≡ max (raised a n x) (stamp_of_join j)
raised_more a b m zero x j h less = absurd (omega (arith, less))
raised_more a b m (suc n) x j h less = elim (cases_eq m n) [
  | inl e ↦
      let more : get_or b n None ≡ Some j = ap (λ k. get_or b k None) (sym e) ∙ h.new in
      let none : get_or a n None ≡ None = ap (λ k. get_or a k None) (sym e) ∙ h.old in
      let same : raised b n x ≡ raised a n x = raised_same b a n x (λ k l. h.others k (omega (arith, l)) (λ q. omega (arith, l, q, e))) in
      ap (λ y. raised_by y (raised b n x)) more ∙ ap (λ y. max y (stamp_of_join j)) (same ∙ sym (ap (λ y. raised_by y (raised a n x)) none))
  | inr ne ↦
      ap (λ y. raised_by y (raised b n x)) (h.others n (omega arith) (λ q. ne (sym q)))
      ∙ ap (raised_by (get_or a n None)) (raised_more a b m n x j (of_fewer a b m n j h) (omega (arith, less, ne)))
      ∙ raise_max (get_or a n None) (raised a n x) (stamp_of_join j)
]

or_comm : (x y : Bool) → (x || y) ≡ (y || x)
or_comm true true = refl
or_comm true false = refl
or_comm false true = refl
or_comm false false = refl

twice : (a b f g : ℕ → Bool) (p : Stmt) → rewritten a b (rewritten f g p) ≡ rewritten f g (rewritten a b p)
twice a b f g p =
    rewritten-both a b f g p
    ∙ rewritten-same (λ c. f c || a c) (λ c. g c || b c) (λ c. a c || f c) (λ c. b c || g c) p (λ c. or_comm (f c) (a c)) (λ c. or_comm (g c) (b c))
    ∙ sym (rewritten-both f g a b p)

put_swap : (l : ℕ → ℤ) (c k : ℕ) (v w : ℤ) → c ≢ k → (x : ℕ) → put_at (put_at l k w) c v x ≡ put_at (put_at l c v) k w x
put_swap l c k v w ne x = elim (cases_eq x c) [
  | inl e ↦
      ap (put_at (put_at l k w) c v) e ∙ put_here (put_at l k w) c v
      ∙ sym (ap (put_at (put_at l c v) k w) e ∙ put_apart (put_at l c v) k w c ne ∙ put_here l c v)
  | inr n ↦ put_apart (put_at l k w) c v x n ∙ elim (cases_eq x k) [
    | inl e ↦ ap (put_at l k w) e ∙ put_here l k w ∙ sym (ap (put_at (put_at l c v) k w) e ∙ put_here (put_at l c v) k w)
    | inr m ↦ put_apart l k w x m ∙ sym (put_apart (put_at l c v) k w x m ∙ put_apart l c v x n)
  ]
]

swap_sides : (a b : Side) (c k : ℕ) (v w : ℤ) (s : DomainState) → c ≢ k → side_done a c v (side_done b k w s) ≡ side_done b k w (side_done a c v s)
swap_sides Sender Sender c k v w s ne = ap (λ q. record s { statement = q }) (twice (λ z. z == c) no_channel (λ z. z == k) no_channel s.statement)
swap_sides Sender Receiver c k v w s ne = ap (λ q. record s { statement = q; last = put_at s.last k w }) (twice (λ z. z == c) no_channel no_channel (λ z. z == k) s.statement)
swap_sides Receiver Sender c k v w s ne = ap (λ q. record s { statement = q; last = put_at s.last c v }) (twice no_channel (λ z. z == c) (λ z. z == k) no_channel s.statement)
swap_sides Receiver Receiver c k v w s ne =
    ap (λ q. record s { statement = q; last = put_at (put_at s.last k w) c v }) (twice no_channel (λ z. z == c) no_channel (λ z. z == k) s.statement)
    ∙ ap (λ l. record s { statement = rewritten no_channel (λ z. z == k) (rewritten no_channel (λ z. z == c) s.statement); last = l }) (fun_ext (put_swap s.last c k v w ne))

swap_ends : (e f : EndOf) (o : Option Joined) (j : Joined) (s : DomainState) → e.channel ≢ f.channel → end_done e o (end_done f (Some j) s) ≡ end_done f (Some j) (end_done e o s)
swap_ends e f None j s ne = refl
swap_ends e f (Some i) j s ne = swap_sides e.side f.side e.channel f.channel i.value j.value s ne

-- one answer more completes its end last of all
pub answers_more : (ends : List EndOf) (a b : List (Option Joined)) (m n : ℕ) (j : Joined) (s : DomainState) → OneMore a b m n j →
    ((k : ℕ) → k < n → k ≢ m → (end_at ends k).channel ≢ (end_at ends m).channel) → m < n →
    with_answers ends b n s ≡ end_done (end_at ends m) (Some j) (with_answers ends a n s)
answers_more ends a b m zero j s h apart less = absurd (omega (arith, less))
answers_more ends a b m (suc n) j s h apart less = elim (cases_eq m n) [
  | inl e ↦
      let more : get_or b n None ≡ Some j = ap (λ k. get_or b k None) (sym e) ∙ h.new in
      let none : get_or a n None ≡ None = ap (λ k. get_or a k None) (sym e) ∙ h.old in
      let same : with_answers ends b n s ≡ with_answers ends a n s = answers_same ends b a n s (λ k l. h.others k (omega (arith, l)) (λ q. omega (arith, l, q, e))) in
      ap (λ y. end_done (end_at ends n) y (with_answers ends b n s)) more
      ∙ ap (end_done (end_at ends n) (Some j)) (same ∙ sym (ap (λ y. end_done (end_at ends n) y (with_answers ends a n s)) none))
      ∙ ap (λ k. end_done (end_at ends k) (Some j) (with_answers ends a (suc n) s)) (sym e)
  | inr ne ↦
      ap (λ y. end_done (end_at ends n) y (with_answers ends b n s)) (h.others n (omega arith) (λ q. ne (sym q)))
      ∙ ap (end_done (end_at ends n) (get_or a n None)) (answers_more ends a b m n j s (of_fewer a b m n j h) (λ k l. apart k (omega (arith, l))) (omega (arith, less, ne)))
      ∙ swap_ends (end_at ends n) (end_at ends m) (get_or a n None) j (with_answers ends a n s) (apart n (omega arith) (λ q. ne (sym q)))
]

-- answers change neither the number of ticks nor how the domain stands
pub answers_ticks : (ends : List EndOf) (a : List (Option Joined)) (n : ℕ) (s : DomainState) → (with_answers ends a n s).ticks ≡ s.ticks
answers_ticks ends a zero s = refl
answers_ticks ends a (suc n) s = one (end_at ends n) (get_or a n None) (with_answers ends a n s) ∙ answers_ticks ends a n s
  where
    side : (b : Side) (c : ℕ) (v : ℤ) (t : DomainState) → (side_done b c v t).ticks ≡ t.ticks
    side Sender c v t = refl
    side Receiver c v t = refl

    one : (e : EndOf) (o : Option Joined) (t : DomainState) → (end_done e o t).ticks ≡ t.ticks
    one e None t = refl
    one e (Some j) t = side e.side e.channel j.value t

pub answers_mark : (ends : List EndOf) (a : List (Option Joined)) (n : ℕ) (s : DomainState) → (with_answers ends a n s).mark ≡ s.mark
answers_mark ends a zero s = refl
answers_mark ends a (suc n) s = one (end_at ends n) (get_or a n None) (with_answers ends a n s) ∙ answers_mark ends a n s
  where
    side : (b : Side) (c : ℕ) (v : ℤ) (t : DomainState) → (side_done b c v t).mark ≡ t.mark
    side Sender c v t = refl
    side Receiver c v t = refl

    one : (e : EndOf) (o : Option Joined) (t : DomainState) → (end_done e o t).mark ≡ t.mark
    one e None t = refl
    one e (Some j) t = side e.side e.channel j.value t

-- waits through joins of other ends
still_side : (a b : Side) (c k : ℕ) (v w : ℤ) (s : DomainState) → c ≢ k → WaitsAs a c v s.statement → WaitsAs a c v (side_done b k w s).statement
still_side Sender Sender c k v w s ne h = still_sends (λ z. z == k) no_channel c v s.statement (ne_eqb c k ne) h
still_side Sender Receiver c k v w s ne h = still_sends no_channel (λ z. z == k) c v s.statement refl h
still_side Receiver Sender c k v w s ne h = (still_receives (λ z. z == k) no_channel c s.statement refl h.0, h.1)
still_side Receiver Receiver c k v w s ne h = (still_receives no_channel (λ z. z == k) c s.statement (ne_eqb c k ne) h.0, h.1)

still_end : (e f : EndOf) (o : Option Joined) (v : ℤ) (s : DomainState) → (f.channel ≢ e.channel) ⊎ (o ≡ None) → Waits e v s.statement → Waits e v (end_done f o s).statement
still_end e f None v s other h = h
still_end e f (Some j) v s (inl other) h = still_side e.side f.side e.channel f.channel v j.value s (λ q. other (sym q)) h
still_end e f (Some j) v s (inr other) h = cc

pub still_waits : (ends : List EndOf) (a : List (Option Joined)) (n : ℕ) (s : DomainState) (e : EndOf) (v : ℤ) → ((k : ℕ) → k < n → ((end_at ends k).channel ≢ e.channel) ⊎ (get_or a k None ≡ None)) →
    Waits e v s.statement → Waits e v (with_answers ends a n s).statement
still_waits ends a zero s e v other h = h
still_waits ends a (suc n) s e v other h =
    still_end e (end_at ends n) (get_or a n None) v (with_answers ends a n s) (other n (omega arith)) (still_waits ends a n s e v (λ k l. other k (omega (arith, l))) h)

waited_side : (a b : Side) (c k : ℕ) (v w : ℤ) (s : DomainState) → WaitsAs a c v (side_done b k w s).statement → WaitsAs a c v s.statement
waited_side Sender Sender c k v w s h = (waited_to_send (λ z. z == k) no_channel c v s.statement h).1
waited_side Sender Receiver c k v w s h = (waited_to_send no_channel (λ z. z == k) c v s.statement h).1
waited_side Receiver Sender c k v w s h = ((waited_to_receive (λ z. z == k) no_channel c s.statement h.0).1, h.1)
waited_side Receiver Receiver c k v w s h = ((waited_to_receive no_channel (λ z. z == k) c s.statement h.0).1, h.1)

waited_end : (e f : EndOf) (o : Option Joined) (v : ℤ) (s : DomainState) → Waits e v (end_done f o s).statement → Waits e v s.statement
waited_end e f None v s h = h
waited_end e f (Some j) v s h = waited_side e.side f.side e.channel f.channel v j.value s h

pub waited : (ends : List EndOf) (a : List (Option Joined)) (n : ℕ) (s : DomainState) (e : EndOf) (v : ℤ) → Waits e v (with_answers ends a n s).statement → Waits e v s.statement
waited ends a zero s e v h = h
waited ends a (suc n) s e v h = waited ends a n s e v (waited_end e (end_at ends n) (get_or a n None) v (with_answers ends a n s) h)

done_side : (a : Side) (c : ℕ) (v w : ℤ) (s : DomainState) → WaitsAs a c v (side_done a c w s).statement → ⊥
done_side Sender c v w s h = eqb-false c c (waited_to_send (λ z. z == c) no_channel c v s.statement h).0 refl
done_side Receiver c v w s h = eqb-false c c (waited_to_receive no_channel (λ z. z == c) c s.statement h.0).0 refl

done_end : (e : EndOf) (o : Option Joined) (v : ℤ) (s : DomainState) → Waits e v (end_done e o s).statement → o ≡ None
done_end e None v s h = refl
done_end e (Some j) v s h = absurd (done_side e.side e.channel v j.value s h)

-- an end that still waits had no answer
pub waits_unanswered : (ends : List EndOf) (a : List (Option Joined)) (n m : ℕ) (s : DomainState) (v : ℤ) → m < n → Waits (end_at ends m) v (with_answers ends a n s).statement → get_or a m None ≡ None
waits_unanswered ends a zero m s v less h = absurd (omega (arith, less))
waits_unanswered ends a (suc n) m s v less h = elim (cases_eq m n) [
  | inl e ↦
      let here : Waits (end_at ends n) v (with_answers ends a (suc n) s).statement = subst (λ k. Waits (end_at ends k) v (with_answers ends a (suc n) s).statement) e h in
      ap (λ k. get_or a k None) e ∙ done_end (end_at ends n) (get_or a n None) v (with_answers ends a n s) here
  | inr ne ↦ waits_unanswered ends a n m s v (omega (arith, less, ne)) (waited_end (end_at ends m) (end_at ends n) (get_or a n None) v (with_answers ends a n s) h)
]
