-- What the host may answer to a write.
use Rattle.std.specs.Prelude.{ℕ, ◌≤◌}

-- a sink may take n of so many bytes: not more, and at least one where there is one
abbrev pub IsCount : ℕ → ℕ → Type 0
IsCount n len = (n ≤ len) × (1 ≤ len → 1 ≤ n)
