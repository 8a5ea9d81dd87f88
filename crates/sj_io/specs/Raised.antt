-- What a failure does to the counts.
use Rattle.std.specs.Prelude.{◌≡◌, ℕ, ◌+◌, ◌-◌, ◌^◌, ◌≤◌, min, List, slice_set, slice_index}
use Rattle.sj_io.specs.definitions.Causes.{Rose}
use Rattle.sj_io.specs.definitions.Files.{CountsApart}

-- the count at the place is one more, up to its type's end, and all else is as it was
pub record IsRaised (names names' : List (List ℕ)) (counts counts' : List ℕ) (place : ℕ) : Type 0
  where
    pub same : names' ≡ names
    pub fits : slice_index counts place ≤ 2 ^ 64 - 1
    pub raised : counts' ≡ slice_set counts place (min (slice_index counts place + 1) (2 ^ 64 - 1))

-- a failure raises the count of its name, and leaves each other count
pub record Raises (known : List (List ℕ)) (faults faults' : List ℕ →
    ℕ) (name : List ℕ) : Type 0 where
  pub later : (other : List ℕ) → faults other ≤ faults' other
  pub apart : (other : List ℕ) → CountsApart known name other → faults' other ≡ faults other
  pub rose : Rose (faults name) (faults' name)
