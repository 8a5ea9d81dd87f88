-- The statuses of one tick, added one after another.
use Rattle.std.proofs.Common.{◌≡◌, ℕ, zero, suc, ℤ, Bool, false, cond, get_or, Vec, Global, ◌+◌, ◌≤◌, ◌<◌, List, [], ◌∷◌, ◌++◌, length, drop, refl, sym, ap, ◌∙◌, arith, append_assoc, vec_len, vec_capacity, Option, Some, None}
use Rattle.std.proofs.lemmas.List.{append-nil, drop_all}
use Rattle.tick_log.specs.definitions.Runs.{statuses_of}

-- so many statuses were added, and with those that are left they are all of the tick
pub record Appends (present : List Bool) (values : List ℤ) (first now : Vec (Option ℤ) Global) (i : ℕ) : Type 0 where
  pub items : now.items ++ statuses_of (drop i present) (drop i values) ≡ first.items ++ statuses_of present values
  pub len : vec_len now ≡ vec_len first + i
  pub capacity : vec_capacity first ≤ vec_capacity now

statuses_drop : (present : List Bool) (values : List ℤ) (i : ℕ) (d : ℤ) → i < length present → length present ≡ length values
    → statuses_of (drop i present) (drop i values) ≡ cond (get_or present i false) (Some (get_or values i d)) None ∷ statuses_of (drop (i + 1) present) (drop (i + 1) values)
statuses_drop [] values i d lt e = absurd (omega arith)
statuses_drop (b ∷ bs) [] i d lt e = absurd (omega arith)
statuses_drop (b ∷ bs) (v ∷ vs) zero d lt e = refl
statuses_drop (b ∷ bs) (v ∷ vs) (suc i) d lt e = let z : suc i + 1 ≡ suc (i + 1) = omega arith in rw z (statuses_drop bs vs i d (omega arith) (omega arith))

moved : (a b : List (Option ℤ)) (s : Option ℤ) (left rest all : List (Option ℤ)) → a ++ left ≡ all → left ≡ s ∷ rest → b ≡ a ++ s ∷ [] → b ++ rest ≡ all
moved a b s left rest all e f g = ap (λ l. l ++ rest) g ∙ append_assoc a (s ∷ []) rest ∙ ap (λ l. a ++ l) (sym f) ∙ e

pub appends_first : (present : List Bool) (values : List ℤ) (first : Vec (Option ℤ) Global) → Appends present values first first 0
appends_first present values first = record { items = refl; len = omega arith; capacity = omega arith }

pub appends_on : (present : List Bool) (values : List ℤ) (first now new : Vec (Option ℤ) Global) (i : ℕ) (v : ℤ) (s : Option ℤ) → i < length present → length present ≡ length values → v ≡ get_or values i v → s ≡ cond (get_or present i false) (Some v) None
    → new.items ≡ now.items ++ s ∷ [] → vec_len new ≡ vec_len now + 1 → vec_capacity now ≤ vec_capacity new → Appends present values first now i → Appends present values first new (i + 1)
appends_on present values first now new i v s lt e is status items len cap t =
    let rest = statuses_of (drop (i + 1) present) (drop (i + 1) values) in
    let same = ap (λ x. cond (get_or present i false) (Some x) None) is in
    let f = statuses_drop present values i v lt e ∙ ap (λ x. x ∷ rest) (sym (status ∙ same)) in
    record { items = moved _ _ _ _ _ _ t.items f items; len = omega (arith, len, t.len); capacity = omega (arith, cap, t.capacity) }

pub appends_last : (present : List Bool) (values : List ℤ) (first now : Vec (Option ℤ) Global) (i : ℕ) → i ≡ length present → Appends present values first now i → now.items ≡ first.items ++ statuses_of present values
appends_last present values first now i e t =
    let gone : statuses_of (drop i present) (drop i values) ≡ [] = ap (λ l. statuses_of l (drop i values)) (drop_all i present (omega arith)) in
    sym (append-nil now.items) ∙ ap (λ l. now.items ++ l) (sym gone) ∙ t.items

pub statuses_length : (present : List Bool) (values : List ℤ) → length present ≡ length values → length (statuses_of present values) ≡ length present
statuses_length [] values e = refl
statuses_length (b ∷ bs) [] e = absurd (omega arith)
statuses_length (b ∷ bs) (v ∷ vs) e = omega (arith, statuses_length bs vs (omega arith))

pub ruleset status_steps = (appends_first, appends_on, appends_last)
