-- Stamps and numbers of the joins at the ends.
use Rattle.std.proofs.Common.{◌≡◌, ◌≢◌, ℕ, zero, suc, ◌+◌, ◌<◌, ◌≤◌, ◌⊎◌, pos, cond, List, [], ◌∷◌, ◌++◌, length, get_or, Option, Some, None, refl, sym, ap, ◌∙◌, subst, inl, inr, arith}
use Rattle.std.specs.Prelude.{◌==◌, max}
use Rattle.std.proofs.Math.ListN.{set}
use Rattle.std.proofs.lemmas.Bool.{cases_eq, cases_lt, eq-eqb, ne_eqb, cond-true, cond-false}
use Rattle.std.proofs.lemmas.List.{get_or-set_same, get_or-set_other, length-append}
use Rattle.cell_core.specs.declared.moves.Joined.{Joined}
use Rattle.domain_core.specs.declared.step.ends_of.EndJoin.{EndJoin}
use Rattle.domain_core.specs.definitions.runs.Stamps.{IsTickStamp, IsGreatest, stamp_of_join}
use Rattle.domain_core.specs.step.Answers.{raised, raised_by, newest, newest_of, next_stamp}
use Rattle.domain_core.specs.definitions.step.Domains.{joins_at}
use Rattle.domain_core.specs.definitions.step.Steps.{add_join, add_joins, join_in, IsStampSince}
use Rattle.domain_core.proofs.lemmas.step.StateAnswers.{length_joins}

abbrev pub counted : ℕ → EndJoin → ℕ
counted t x = cond (x.ticks == t) (stamp_of_join x.joined) 0

newest_push : (t : ℕ) (js : List EndJoin) (x : EndJoin) → newest t (js ++ x ∷ []) ≡ max (newest t js) (counted t x)
newest_push t [] x = omega arith
newest_push t (j ∷ js) x = let i = newest_push t js x in omega (arith, i)

-- a join more at one end
newest_set : (t n : ℕ) (joins : List (List EndJoin)) (x : EndJoin) → n < length joins → newest_of t (set joins n (joins_at joins n ++ x ∷ [])) ≡ max (newest_of t joins) (counted t x)
newest_set t n [] x within = absurd (omega (arith, within))
newest_set t zero (js ∷ jss) x within = let i = newest_push t js x in omega (arith, i)
newest_set t (suc n) (js ∷ jss) x within = let i = newest_set t n jss x (omega (arith, within)) in omega (arith, i)

-- the joins answered after as many ticks raise the greatest stamp
one_raised : (t n s : ℕ) (a : Option Joined) (joins : List (List EndJoin)) → n < length joins → max s (newest_of t (add_join t n a joins)) ≡ raised_by a (max s (newest_of t joins))
one_raised t n s None joins within = refl
one_raised t n s (Some j) joins within =
    let i = newest_set t n joins (record { joined = j; ticks = t }) within in
    let here : counted t (record { joined = j; ticks = t }) ≡ stamp_of_join j = cond-true (t == t) (stamp_of_join j) 0 (eq-eqb t t refl) in
    omega (arith, i, here)

pub all_raised : (t s : ℕ) (answers : List (Option Joined)) (n : ℕ) (joins : List (List EndJoin)) → n ≤ length joins →
    max s (newest_of t (add_joins t answers n joins)) ≡ raised answers n (max s (newest_of t joins))
all_raised t s answers zero joins within = refl
all_raised t s answers (suc n) joins within =
    one_raised t n s (get_or answers n None) (add_joins t answers n joins) (omega (arith, within, length_joins t answers n joins))
    ∙ ap (raised_by (get_or answers n None)) (all_raised t s answers n joins (omega (arith, within)))

-- and none of another number of ticks
one_other : (t u n : ℕ) (a : Option Joined) (joins : List (List EndJoin)) → n < length joins → t ≢ u → newest_of u (add_join t n a joins) ≡ newest_of u joins
one_other t u n None joins within ne = refl
one_other t u n (Some j) joins within ne =
    let i = newest_set u n joins (record { joined = j; ticks = t }) within in
    let here : counted u (record { joined = j; ticks = t }) ≡ 0 = cond-false (t == u) (stamp_of_join j) 0 (ne_eqb t u ne) in
    omega (arith, i, here)

pub all_other : (t u : ℕ) (answers : List (Option Joined)) (n : ℕ) (joins : List (List EndJoin)) → n ≤ length joins → t ≢ u →
    newest_of u (add_joins t answers n joins) ≡ newest_of u joins
all_other t u answers zero joins within ne = refl
all_other t u answers (suc n) joins within ne =
    one_other t u n (get_or answers n None) (add_joins t answers n joins) (omega (arith, within, length_joins t answers n joins)) ne
    ∙ all_other t u answers n joins (omega (arith, within)) ne

-- an answer is a join more
abbrev pub one_if : Option Joined → ℕ
one_if None = 0
one_if (Some j) = 1

one_counted : (t n : ℕ) (a : Option Joined) (joins : List (List EndJoin)) → n < length joins → length (joins_at (add_join t n a joins) n) ≡ length (joins_at joins n) + one_if a
one_counted t n None joins within = omega arith
one_counted t n (Some j) joins within =
    ap length (get_or-set_same joins n (joins_at joins n ++ record { joined = j; ticks = t } ∷ []) [] within) ∙ length-append (joins_at joins n) (record { joined = j; ticks = t } ∷ [])

one_elsewhere : (t n k : ℕ) (a : Option Joined) (joins : List (List EndJoin)) → k ≢ n → joins_at (add_join t n a joins) k ≡ joins_at joins k
one_elsewhere t n k None joins ne = refl
one_elsewhere t n k (Some j) joins ne = get_or-set_other joins n k (joins_at joins n ++ record { joined = j; ticks = t } ∷ []) [] ne

later_joins : (t : ℕ) (answers : List (Option Joined)) (n k : ℕ) (joins : List (List EndJoin)) → n ≤ k → joins_at (add_joins t answers n joins) k ≡ joins_at joins k
later_joins t answers zero k joins low = refl
later_joins t answers (suc n) k joins low =
    one_elsewhere t n k (get_or answers n None) (add_joins t answers n joins) (omega (arith, low)) ∙ later_joins t answers n k joins (omega (arith, low))

pub all_counted : (t : ℕ) (answers : List (Option Joined)) (n k : ℕ) (joins : List (List EndJoin)) → k < n → n ≤ length joins →
    length (joins_at (add_joins t answers n joins) k) ≡ length (joins_at joins k) + one_if (get_or answers k None)
all_counted t answers zero k joins less within = absurd (omega (arith, less))
all_counted t answers (suc n) k joins less within = elim (cases_eq k n) [
  | inl e ↦
      subst (λ m. length (joins_at (add_join t n (get_or answers n None) (add_joins t answers n joins)) m) ≡ length (joins_at joins m) + one_if (get_or answers m None)) (sym e)
      (one_counted t n (get_or answers n None) (add_joins t answers n joins) (omega (arith, within, length_joins t answers n joins))
      ∙ ap (λ js. length js + one_if (get_or answers n None)) (later_joins t answers n n joins (omega arith)))
  | inr ne ↦
      ap length (one_elsewhere t n k (get_or answers n None) (add_joins t answers n joins) ne)
      ∙ all_counted t answers n k joins (omega (arith, less, ne)) (omega (arith, within))
]

-- the greatest of the stamps of some joins is that of one of them, where it isn't 0
newest_low : (t : ℕ) (js : List EndJoin) (i : ℕ) (x : EndJoin) → i < length js → (get_or js i x).ticks ≡ t → stamp_of_join (get_or js i x).joined ≤ newest t js
newest_low t [] i x less is = absurd (omega (arith, less))
newest_low t (j ∷ js) zero x less is = let here = cond-true (j.ticks == t) (stamp_of_join j.joined) 0 (eq-eqb j.ticks t is) in omega (arith, here)
newest_low t (j ∷ js) (suc i) x less is = let rest = newest_low t js i x (omega (arith, less)) is in omega (arith, rest)

newest_of_low : (t : ℕ) (jss : List (List EndJoin)) (n i : ℕ) → i < length (joins_at jss n) → (join_in jss n i).ticks ≡ t → stamp_of_join (join_in jss n i).joined ≤ newest_of t jss
newest_of_low t [] n i less is = absurd (omega (arith, less))
newest_of_low t (js ∷ jss) zero i less is = let here = newest_low t js i (record { joined = record { value = pos 0; mine = 0; theirs = 0 }; ticks = 0 }) less is in omega (arith, here)
newest_of_low t (js ∷ jss) (suc n) i less is = let rest = newest_of_low t jss n i less is in omega (arith, rest)

record IsIn (t : ℕ) (js : List EndJoin) (s : ℕ) : Type 0 where
  place : ℕ
  within : place < length js
  ticks : (get_or js place (record { joined = record { value = pos 0; mine = 0; theirs = 0 }; ticks = 0 })).ticks ≡ t
  stamp : s ≡ stamp_of_join (get_or js place (record { joined = record { value = pos 0; mine = 0; theirs = 0 }; ticks = 0 })).joined

newest_found : (t : ℕ) (js : List EndJoin) → (newest t js ≡ 0) ⊎ IsIn t js (newest t js)
newest_found t [] = inl refl
newest_found t (j ∷ js) = by_ticks (cases_eq j.ticks t) (newest_found t js)
  where
    behind : IsIn t js (newest t js) → newest t (j ∷ js) ≡ newest t js → IsIn t (j ∷ js) (newest t (j ∷ js))
    behind h e = record { place = suc h.place; within = omega (arith, h.within); ticks = h.ticks; stamp = e ∙ h.stamp }

    by_ticks : (j.ticks ≡ t) ⊎ (j.ticks ≢ t) → (newest t js ≡ 0) ⊎ IsIn t js (newest t js) → (newest t (j ∷ js) ≡ 0) ⊎ IsIn t (j ∷ js) (newest t (j ∷ js))
    by_ticks (inl is) (inl none) =
        let here = cond-true (j.ticks == t) (stamp_of_join j.joined) 0 (eq-eqb j.ticks t is) in
        inr (record { place = 0; within = omega arith; ticks = is; stamp = omega (arith, here, none) })
    by_ticks (inl is) (inr h) =
        let here = cond-true (j.ticks == t) (stamp_of_join j.joined) 0 (eq-eqb j.ticks t is) in
        elim (cases_lt (newest t js) (stamp_of_join j.joined)) [
          | inl low ↦ inr (record { place = 0; within = omega arith; ticks = is; stamp = omega (arith, here, low) })
          | inr high ↦ inr (behind h (omega (arith, here, high)))
        ]
    by_ticks (inr isnt) found =
        let here = cond-false (j.ticks == t) (stamp_of_join j.joined) 0 (ne_eqb j.ticks t isnt) in
        elim found [
          | inl none ↦ inl (omega (arith, here, none))
          | inr h ↦ inr (behind h (omega (arith, here)))
        ]

newest_of_found : (t : ℕ) (jss : List (List EndJoin)) → (newest_of t jss ≡ 0) ⊎ IsStampSince jss t (newest_of t jss)
newest_of_found t [] = inl refl
newest_of_found t (js ∷ jss) = by_first (newest_found t js) (newest_of_found t jss)
  where
    first : IsIn t js (newest t js) → newest_of t (js ∷ jss) ≡ newest t js → IsStampSince (js ∷ jss) t (newest_of t (js ∷ jss))
    first h e = (0, h.place, h.within, h.ticks, e ∙ h.stamp)

    later : IsStampSince jss t (newest_of t jss) → newest_of t (js ∷ jss) ≡ newest_of t jss → IsStampSince (js ∷ jss) t (newest_of t (js ∷ jss))
    later h e = (suc h.0, h.1, h.2, h.3, e ∙ h.4)

    by_first : (newest t js ≡ 0) ⊎ IsIn t js (newest t js) → (newest_of t jss ≡ 0) ⊎ IsStampSince jss t (newest_of t jss) → (newest_of t (js ∷ jss) ≡ 0) ⊎ IsStampSince (js ∷ jss) t (newest_of t (js ∷ jss))
    by_first (inl a) (inl b) = inl (omega (arith, a, b))
    by_first (inr h) (inl b) = inr (first h (omega (arith, b)))
    by_first (inl a) (inr h) = inr (later h (omega (arith, a)))
    by_first (inr h) (inr g) = elim (cases_lt (newest t js) (newest_of t jss)) [
      | inl low ↦ inr (later g (omega (arith, low)))
      | inr high ↦ inr (first h (omega (arith, high)))
    ]

-- the stamp of the next tick, counted and by its rule
pub next_is_stamp : (last ticks : ℕ) (joins : List (List EndJoin)) → IsTickStamp last (IsStampSince joins ticks) (next_stamp last ticks joins)
next_is_stamp last ticks joins = (
  max last (newest_of ticks joins),
  refl,
  record {
    least = omega arith;
    joins = λ t h. let low = newest_of_low ticks joins h.0 h.1 h.2 h.3 in omega (arith, h.4, low);
    attained = by_found (newest_of_found ticks joins);
  },
)
  where
    by_found : (newest_of ticks joins ≡ 0) ⊎ IsStampSince joins ticks (newest_of ticks joins) → (max last (newest_of ticks joins) ≡ last) ⊎ IsStampSince joins ticks (max last (newest_of ticks joins))
    by_found (inl none) = inl (omega (arith, none))
    by_found (inr h) = elim (cases_lt last (newest_of ticks joins)) [
      | inl low ↦ inr (subst (IsStampSince joins ticks) (omega (arith, low)) h)
      | inr high ↦ inl (omega (arith, high))
    ]

pub stamp_is_next : (last ticks : ℕ) (joins : List (List EndJoin)) (stamp : ℕ) → IsTickStamp last (IsStampSince joins ticks) stamp → stamp ≡ next_stamp last ticks joins
stamp_is_next last ticks joins stamp h =
    let next = next_is_stamp last ticks joins in
    let high = at_most h.0 h.2 next.0 next.2 in
    let low = at_most next.0 next.2 h.0 h.2 in
    omega (arith, h.1, high, low)
  where
    at_most : (s : ℕ) → IsGreatest last (IsStampSince joins ticks) s → (u : ℕ) → IsGreatest last (IsStampSince joins ticks) u → s ≤ u
    at_most s a u b = elim a.attained [
      | inl e ↦ omega (arith, e, b.least)
      | inr x ↦ b.joins s x
    ]
