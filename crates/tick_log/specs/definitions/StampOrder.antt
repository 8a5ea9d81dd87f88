-- The ticks and joins of a run, in stamp order.
use Rattle.std.specs.Prelude.{◌≡◌, ℕ, ◌<◌, ◌⊎◌, ◌↔◌, List, [], ◌∷◌, length}
use Rattle.tick_log.specs.definitions.Runs.{RunState, tick_count, join_count, tick_of, join_of}

-- a tick, by its domain and the number of ticks before it; a join, by its channel and the number of joins
-- before it
pub data Event : Type 0 where
  TickOf : (domain number : ℕ) → Event
  JoinOf : (channel number : ℕ) → Event

abbrev pub IsEventOf : RunState → Event → Type 0
IsEventOf r (TickOf d n) = (d < length r.logs) × (n < tick_count r d)
IsEventOf r (JoinOf c i) = (c < length r.histories) × (i < join_count r c)

abbrev pub stamp_of : RunState → Event → ℕ
stamp_of r (TickOf d n) = (tick_of r d n).stamp
stamp_of r (JoinOf c i) = (join_of r c i).stamp

-- of two pairs of numbers, the first is the smaller
abbrev pub Smaller : ℕ → ℕ → ℕ → ℕ → Type 0
Smaller a m b n = (a < b) ⊎ ((a ≡ b) × (m < n))

-- at equal stamps: ticks before joins, then the smaller domain or channel, then the smaller number
abbrev pub BeforeAtOneStamp : Event → Event → Type 0
BeforeAtOneStamp (TickOf d m) (TickOf e n) = Smaller d m e n
BeforeAtOneStamp (TickOf d m) (JoinOf c i) = Unit {0}
BeforeAtOneStamp (JoinOf c i) (TickOf d m) = ⊥
BeforeAtOneStamp (JoinOf c i) (JoinOf b j) = Smaller c i b j

pub data IsBefore (r : RunState) (e f : Event) : Type 0 where
  by_stamp : stamp_of r e < stamp_of r f → IsBefore r e f
  at_one_stamp : stamp_of r e ≡ stamp_of r f → BeforeAtOneStamp e f → IsBefore r e f

-- the event stands in the list
abbrev pub IsIn : Event → List Event → Type 0
IsIn e [] = ⊥
IsIn e (f ∷ fs) = (e ≡ f) ⊎ IsIn e fs

-- each event of the list is before all that follow it
abbrev pub Ascends : RunState → List Event → Type 0
Ascends r [] = Unit {0}
Ascends r (e ∷ es) = ((f : Event) → IsIn f es → IsBefore r e f) × Ascends r es

-- the list is that of all ticks of the logs and joins of the histories, in stamp order
pub record IsStampOrder (r : RunState) (order : List Event) : Type 0 where
  pub all : (e : Event) → IsIn e order ↔ IsEventOf r e
  pub ascends : Ascends r order
