-- Equations whose wires two counters gave, and their numbering.
use Rattle.std.specs.Prelude.{◌≡◌, ℕ, ◌+◌, ◌<◌, ◌≤◌, ◌^◌, List, []}
use Rattle.wire_code.specs.declared.equation.Equation.{Equation}
use Rattle.wire_code.specs.Numbering.{IsNumbering, ReadsGiven, renamed_equations}

-- one of so many numbers from 0 on, or of so many from 2^31 on
abbrev pub IsCounted : ℕ → ℕ → ℕ → Type 0
IsCounted low high wire = (wire < 2 ^ 31 → wire < low) × (2 ^ 31 ≤ wire → wire < 2 ^ 31 + high)

-- the new equations are the old ones by this renaming, which numbers them from 0
pub record AreNumbered (r : ℕ → ℕ) (old new : List Equation) : Type 0 where
  pub numbers : IsNumbering r 0 old
  pub reads : ReadsGiven [] old
  pub equations : new ≡ renamed_equations r old
