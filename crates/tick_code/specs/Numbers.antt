-- The tables of new numbers.
use Rattle.std.specs.Prelude.{◌≡◌, ◌≢◌, ℕ, ◌-◌, ◌<◌, ◌^◌, Option, Some, None, IsSome, length, nat_lt, slice_index_or, unwrap_or, if◌then◌else◌}
use Rattle.wire_code.specs.declared.equation.Equation.{Equation}
use Rattle.wire_code.specs.Formulas.{EachRead}
use Rattle.wire_code.specs.Numbering.{renamed}
use Rattle.tick_code.specs.declared.numbers.Numbers.{Numbers}
use Rattle.tick_code.specs.Counters.{IsCounted}

abbrev pub number_of : Numbers → ℕ → Option ℕ
number_of n k =
    if nat_lt k (2 ^ 31)
    then slice_index_or n.low.items k None
    else slice_index_or n.high.items (k - 2 ^ 31) None

-- as a renaming: a wire with no number is renamed to 0
abbrev pub renaming_of : (ℕ → Option ℕ) → ℕ → ℕ
renaming_of numbers k = unwrap_or (numbers k) 0

abbrev pub HasPlace : Numbers → ℕ → Type 0
HasPlace n k = IsCounted (length n.low.items) (length n.high.items) k

-- places for the same wires
abbrev pub HavePlaces : Numbers → Numbers → Type 0
HavePlaces m n =
    (length n.low.items ≡ length m.low.items) × (length n.high.items ≡ length m.high.items)

-- places for so many wires, and no number
pub record IsFresh (low high : ℕ) (n : Numbers) : Type 0 where
  pub low_places : length n.low.items ≡ low
  pub high_places : length n.high.items ≡ high
  pub empty : (k : ℕ) → number_of n k ≡ None

-- the equation reads wires that have numbers, and its own has none
abbrev pub IsNext : (ℕ → Option ℕ) → Equation → Type 0
IsNext numbers e = EachRead (λ k. IsSome (numbers k)) e.formula × (numbers e.wire ≡ None)

-- the equation is renamed, and its wire has this number
pub record Renames (old new : ℕ → Option ℕ) (next : ℕ) (e renumbered : Equation) : Type 0 where
  pub can : IsNext old e
  pub small : e.wire < 2 ^ 32
  pub equation : renumbered ≡ record { wire = next; formula = renamed (renaming_of old) e.formula }
  pub own : new e.wire ≡ Some next
  pub others : (k : ℕ) → k ≢ e.wire → new k ≡ old k
