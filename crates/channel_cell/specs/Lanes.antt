-- The lanes of values and stamps, and what they hold.
use Rattle.std.specs.Prelude.{◌≡◌, ℕ, ℤ, ◌+◌, ◌%◌, List, [], ◌∷◌, Option, Some, None, slice_index}
use Rattle.std.specs.Int.{cast_signed, w64}
use Rattle.java_values.specs.declared.kind.Kind.{Kind}
use Rattle.cell_core.specs.declared.moves.Side.{Side}
use Rattle.cell_core.specs.declared.moves.Side.TheVariants.{Sender, Receiver}
use Rattle.cell_core.specs.declared.moves.Joined.{Joined}
use Rattle.cell_core.specs.declared.cell.Standing.{Standing}
use Rattle.cell_core.specs.declared.cell.Standing.TheVariants.{Empty, Open, Taken}
use Rattle.cell_core.specs.declared.moves.CellMove.{CellMove}
use Rattle.cell_core.specs.CellEnds.{MoveFits}

-- the words of the lanes of join number n
abbrev pub value_lane : ℕ → ℕ
value_lane n = 1 + n % 2

abbrev pub stamp_lane : Side → ℕ → ℕ
stamp_lane Sender n = 3 + n % 2
stamp_lane Receiver n = 5 + n % 2

abbrev pub value_at : List ℕ → ℕ → ℤ
value_at words n = cast_signed w64 (slice_index words (value_lane n))

abbrev pub stamp_at : List ℕ → Side → ℕ → ℕ
stamp_at words side n = slice_index words (stamp_lane side n)

-- the lanes of a side for join number n hold this offer; a receiver's has no value
abbrev pub Says : List ℕ → Side → ℕ → ℤ → ℕ → Type 0
Says words Sender n v s = (value_at words n ≡ v) × (stamp_at words Sender n ≡ s)
Says words Receiver n v s = (stamp_at words Receiver n ≡ s)

abbrev pub SaysOpen : List ℕ → Side → Standing → ℕ → Type 0
SaysOpen words side Empty n = Unit {0}
SaysOpen words side (Open v s) n = Says words side n v s
SaysOpen words side (Taken j) n = Unit {0}

abbrev pub SaysTaken : List ℕ → Side → Standing → ℕ → Type 0
SaysTaken words side Empty n = Unit {0}
SaysTaken words side (Open v s) n = Unit {0}
SaysTaken words side (Taken j) n = Says words side n j.value j.theirs

abbrev pub SaysLast : List ℕ → Side → Option Joined → ℕ → Type 0
SaysLast words side None n = Unit {0}
SaysLast words side (Some j) n = Says words side n j.value j.theirs

-- The lanes of a side, which is x and knows n joins, where the other side is y, knows k joins and was last
-- replied r: they hold its offer while that is open, the join that the other side hasn't yet recalled, and
-- the join that the other side was last replied.
pub record Shows (words : List ℕ) (side : Side) (x : Standing) (n : ℕ) (y : Standing) (k : ℕ)
    (r : Option Joined) : Type 0 where
  pub of_open : SaysOpen words side x n
  pub of_taken : SaysTaken words side y k
  pub of_last : SaysLast words side r (k + 1)

-- the reply, where it is a join, is one of an offer of this side with this value and this stamp
abbrev pub IsOwn : Side → Option Joined → ℤ → ℕ → Type 0
IsOwn side None v s = Unit {0}
IsOwn Sender (Some j) v s = (j.mine ≡ s) × (j.value ≡ v)
IsOwn Receiver (Some j) v s = (j.mine ≡ s)

-- every sender's value is in the kind, and every stamp below 2^62
abbrev pub AllFit : Kind → List CellMove → Type 0
AllFit kind [] = Unit {0}
AllFit kind (m ∷ ms) = AllFit kind ms × MoveFits kind m
