-- What files give, and what a call leaves as it was.
use Rattle.std.specs.Prelude.{◌≡◌, ◌≢◌, ◌⊎◌, ℕ, ◌≤◌, List, [], ◌∷◌, length, take, drop, Option}

-- The first n bytes of the buffer are those from place `at` on. None come only at the end of the
-- file, or into an empty buffer.
pub record ReadsAt (all : List ℕ) (at n : ℕ) (buf : List ℕ) : Type 0 where
  pub bytes : take n buf ≡ take n (drop at all)
  pub within : n ≤ length (drop at all)
  pub end : n ≡ 0 → 1 ≤ length buf → length all ≤ at

abbrev pub IsKnown : List (List ℕ) → List ℕ → Type 0
IsKnown [] name = ⊥
IsKnown (x ∷ xs) name = (name ≡ x) ⊎ IsKnown xs name

-- The two names have two counts: they differ, and one of them at least is known.
abbrev pub CountsApart : List (List ℕ) → List ℕ → List ℕ → Type 0
CountsApart known name other = (other ≢ name) × (IsKnown known name ⊎ IsKnown known other)

-- no count has moved
abbrev pub CountsStay : (List ℕ → ℕ) → (List ℕ → ℕ) → Type 0
CountsStay faults faults' = (other : List ℕ) → faults' other ≡ faults other

-- What calls of one name leave: the told bytes, each count of another name, and no count falls.
pub record Keeps (known : List (List ℕ)) (told told' : List ℕ →
    Option (List ℕ)) (faults faults' : List ℕ → ℕ) (name : List ℕ) : Type 0 where
  pub same : (other : List ℕ) → told' other ≡ told other
  pub later : (other : List ℕ) → faults other ≤ faults' other
  pub apart : (other : List ℕ) → CountsApart known name other → faults' other ≡ faults other
