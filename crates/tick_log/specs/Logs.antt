-- How a log is kept: the stamps, and the statuses of all ticks in one list. How a history is kept.
use Rattle.std.specs.Prelude.{◌≡◌, ℕ, ◌+◌, ◌*◌, ◌^◌, ◌<◌, ◌≤◌, ℤ, Bool, true, List, [], ◌∷◌, take, drop, Option, Vec, vec_len, vec_capacity}
use Rattle.std.specs.Global.{Global}
use Rattle.tick_log.specs.declared.history.JoinRow.{JoinRow}
use Rattle.tick_log.specs.definitions.Runs.{Entry}

-- the entries of so many signals each
abbrev pub entries_of : ℕ → List ℕ → List (Option ℤ) → List Entry
entries_of signals [] statuses = []
entries_of signals (s ∷ stamps) statuses =
    record { stamp = s; statuses = take signals statuses } ∷
    entries_of signals stamps (drop signals statuses)

-- So many statuses as the ticks have, and memory for the ticks that there is room for. A domain that
-- has ended has had a tick.
pub record Keeps (stamps : Vec ℕ Global) (statuses : Vec (Option ℤ) Global) (signals room : ℕ)
    (ended : Bool) : Type 0 where
  pub all : vec_len statuses ≡ signals * vec_len stamps
  pub ticks : vec_len stamps + room ≤ vec_capacity stamps
  pub places : signals * (vec_len stamps + room) ≤ vec_capacity statuses
  pub fits : vec_len stamps + room < 2 ^ 32
  pub last : ended ≡ true → 1 ≤ vec_len stamps

-- memory for the joins that there is room for
pub record KeepsRows (rows : Vec JoinRow Global) (room : ℕ) : Type 0 where
  pub places : vec_len rows + room ≤ vec_capacity rows
  pub fits : vec_len rows + room < 2 ^ 32
