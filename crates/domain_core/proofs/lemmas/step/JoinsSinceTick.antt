-- The joins of a domain since its last tick are those that its rounds found then.
use Rattle.std.proofs.Common.{◌≡◌, ◌≢◌, ℕ, zero, suc, pos, ◌<◌, ◌≤◌, List, [], ◌∷◌, ◌++◌, length, map, get_or, Option, Some, None, refl, sym, ap, ◌∙◌, subst, inl, inr, arith}
use Rattle.std.proofs.lemmas.Bool.{cases_lt, cases_eq}
use Rattle.std.proofs.lemmas.List.{get_or_past, get_or-set_same, get_or-set_other, append-nil, length-set}
use Rattle.cell_core.specs.declared.moves.Joined.{Joined}
use Rattle.domain_core.specs.declared.step.ends_of.EndOf.{EndOf}
use Rattle.domain_core.specs.declared.step.ends_of.EndJoin.{EndJoin}
use Rattle.domain_core.specs.definitions.runs.Stamps.{IsTickStamp, stamp_of_join}
use Rattle.domain_core.specs.definitions.step.EndCalls.{end_at}
use Rattle.domain_core.specs.definitions.step.Domains.{joins_at}
use Rattle.domain_core.specs.definitions.step.Steps.{IsStampSince, add_join, add_joins}
use Rattle.domain_core.specs.definitions.rounds.Rounds.{Rounds, Found, found_entry, found_from, join_found, IsFoundStamp, RecallsStanding}
use Rattle.domain_core.specs.definitions.step.RoundsOf.{found_in}
use Rattle.domain_core.proofs.lemmas.rounds.RoundsStamps.{AllAt, InFound, IsOut, all_out, in_found}
use Rattle.domain_core.proofs.lemmas.step.ChannelEnds.{EndThere}

-- another stamp and other joins that are the same
pub tick_stamp_same : (last last' : ℕ) (P Q : ℕ → Type 0) (stamp : ℕ) → last ≡ last' → ((t : ℕ) → P t → Q t) → ((t : ℕ) → Q t → P t) → IsTickStamp last P stamp → IsTickStamp last' Q stamp
tick_stamp_same last last' P Q stamp e to from h = (
  h.0,
  h.1,
  record {
    least = let l = h.2.least in omega (arith, e, l);
    joins = λ t q. h.2.joins t (from t q);
    attained = elim h.2.attained [ inl q ↦ inl (q ∙ e) | inr q ↦ inr (to h.0 q) ];
  },
)

abbrev no_join : EndJoin
no_join = record { joined = record { value = pos 0; mine = 0; theirs = 0 }; ticks = 0 }

all_in : (Q : Found → Type 0) (js : List EndJoin) (i : ℕ) → AllAt Q (map found_in js) → i < length js → Q (found_in (get_or js i no_join))
all_in Q [] i a h = absurd (omega (arith, h))
all_in Q (j ∷ js) zero a h = a.0
all_in Q (j ∷ js) (suc i) a h = all_in Q js i a.1 (omega (arith, h))

record PlaceIn (js : List EndJoin) (f : Found) : Type 0 where
  at : ℕ
  below : at < length js
  is : f ≡ found_in (get_or js at no_join)

place_in : (js : List EndJoin) (f : Found) → InFound f (map found_in js) → PlaceIn js f
place_in [] f h = absurd h
place_in (j ∷ js) f (inl h) = record { at = zero; below = omega arith; is = h }
place_in (j ∷ js) f (inr h) = let k = place_in js f h in record { at = suc k.at; below = omega (arith, k.below); is = k.is }

-- the joins at each end are those that the rounds found on its channel in t exchanges
module _ (ends : List EndOf) (joins : List (List EndJoin)) (x : Rounds) (t : ℕ) (lists : length joins ≡ length ends)
    (found : (n : ℕ) → n < length ends → map found_in (joins_at joins n) ≡ found_from x (end_at ends n).channel 1 t) where
  pub since_is_found : ((n c : ℕ) → RecallsStanding (x.offers n c) (x.recalls n c)) → (s : ℕ) → IsStampSince joins t s → IsFoundStamp (x.offers t) (x.recalls t) s
  unfolding IsOut
  since_is_found stands s (n, i, less, ticks, stamp) =
      let c = (end_at ends n).channel in
      let within : n < length joins = elim (cases_lt n (length joins)) [
        | inl l ↦ l
        | inr l ↦ let none = ap length (get_or_past joins n [] l) in absurd (omega (arith, none, less))
      ] in
      let here = found n (omega (arith, within, lists)) in
      let k = all_in (IsOut x c) (joins_at joins n) i (subst (AllAt (IsOut x c)) (sym here) (all_out x c 1 t stands)) less in
      (c, k.0, ap (λ z. join_found (x.offers z) (x.recalls z) c) (sym ticks) ∙ k.1, stamp ∙ k.2)

  pub found_is_since : ((c : ℕ) (j : Joined) → join_found (x.offers t) (x.recalls t) c ≡ Some j → EndThere ends (length ends) c × (1 ≤ t)) →
      (s : ℕ) → IsFoundStamp (x.offers t) (x.recalls t) s → IsStampSince joins t s
  found_is_since there s (c, j, is, stamp) =
      let h = there c j is in
      let e = h.0 in
      let f : Found = record { number = t; value = j.value; stamp = stamp_of_join j } in
      let low = h.1 in
      let in_rounds = in_found x c t 1 t j low (omega (arith, low)) is in
      let here : InFound f (map found_in (joins_at joins e.place)) =
      subst (InFound f) (ap (λ z. found_from x z 1 t) (sym e.channel) ∙ sym (found e.place e.within)) in_rounds in
      let p = place_in (joins_at joins e.place) f here in
      (e.place, p.at, p.below, ap (λ (z : Found). z.number) (sym p.is), stamp ∙ ap (λ (z : Found). z.stamp) p.is)

-- the joins at an end with those of all answers
abbrev pub join_if : ℕ → Option Joined → List EndJoin
join_if ticks None = []
join_if ticks (Some j) = record { joined = j; ticks = ticks } ∷ []

pub found_if : (t : ℕ) (a : Option Joined) (rest : List Found) → found_entry t a rest ≡ map found_in (join_if t a) ++ rest
found_if t None rest = refl
found_if t (Some j) rest = refl

one_length : (t n : ℕ) (a : Option Joined) (joins : List (List EndJoin)) → length (add_join t n a joins) ≡ length joins
one_length t n None joins = refl
one_length t n (Some j) joins = length-set joins n (joins_at joins n ++ record { joined = j; ticks = t } ∷ [])

pub joins_length : (t : ℕ) (answers : List (Option Joined)) (n : ℕ) (joins : List (List EndJoin)) → length (add_joins t answers n joins) ≡ length joins
joins_length t answers zero joins = refl
joins_length t answers (suc n) joins = one_length t n (get_or answers n None) (add_joins t answers n joins) ∙ joins_length t answers n joins

one_here : (t n : ℕ) (a : Option Joined) (joins : List (List EndJoin)) → n < length joins → joins_at (add_join t n a joins) n ≡ joins_at joins n ++ join_if t a
one_here t n None joins within = sym (append-nil (joins_at joins n))
one_here t n (Some j) joins within = get_or-set_same joins n (joins_at joins n ++ record { joined = j; ticks = t } ∷ []) [] within

one_elsewhere : (t n k : ℕ) (a : Option Joined) (joins : List (List EndJoin)) → k ≢ n → joins_at (add_join t n a joins) k ≡ joins_at joins k
one_elsewhere t n k None joins ne = refl
one_elsewhere t n k (Some j) joins ne = get_or-set_other joins n k (joins_at joins n ++ record { joined = j; ticks = t } ∷ []) [] ne

later_joins : (t : ℕ) (answers : List (Option Joined)) (n k : ℕ) (joins : List (List EndJoin)) → n ≤ k → joins_at (add_joins t answers n joins) k ≡ joins_at joins k
later_joins t answers zero k joins low = refl
later_joins t answers (suc n) k joins low =
    one_elsewhere t n k (get_or answers n None) (add_joins t answers n joins) (omega (arith, low)) ∙ later_joins t answers n k joins (omega (arith, low))

pub all_joined : (t : ℕ) (answers : List (Option Joined)) (n k : ℕ) (joins : List (List EndJoin)) → k < n → n ≤ length joins →
    joins_at (add_joins t answers n joins) k ≡ joins_at joins k ++ join_if t (get_or answers k None)
all_joined t answers zero k joins less within = absurd (omega (arith, less))
all_joined t answers (suc n) k joins less within = elim (cases_eq k n) [
  | inl e ↦
      let P : ℕ → Type 0 = λ m. joins_at (add_join t n (get_or answers n None) (add_joins t answers n joins)) m ≡ joins_at joins m ++ join_if t (get_or answers m None) in
      subst P (sym e)
      (one_here t n (get_or answers n None) (add_joins t answers n joins) (omega (arith, within, joins_length t answers n joins))
      ∙ ap (λ js. js ++ join_if t (get_or answers n None)) (later_joins t answers n n joins (omega arith)))
  | inr ne ↦
      one_elsewhere t n k (get_or answers n None) (add_joins t answers n joins) ne
      ∙ all_joined t answers n k joins (omega (arith, less, ne)) (omega (arith, within))
]
