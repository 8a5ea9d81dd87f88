-- Stamps, legal runs, budgets and rest.
use Rattle.std.specs.Prelude.{◌≡◌, ℕ, ◌<◌, ◌≤◌, ℤ, true, ◌⊎◌, List, [], ◌∷◌, length, suc}
use Rattle.kernel_terms.specs.Marks.{is_over}
use Rattle.domain_core.specs.definitions.runs.Systems.{Setup, SystemState, BothWait, JoinRecord, Step, MakesTick, MakesJoin, start, sender_of, receiver_of, domain_count, channel_count}
use Rattle.tick_log.specs.definitions.Runs.{RunState, log_of, join_of, tick_of, tick_count, join_count}
use Rattle.tick_log.specs.declared.history.JoinRow.{JoinRow}
use Rattle.domain_core.specs.definitions.runs.Stamps.{IsTickStamp, last_stamp, join_stamp}
use Rattle.tick_log.specs.definitions.StampOrder.{Event, TickOf, JoinOf, IsStampOrder}

-- join i of channel c is one of domain d's, which had made n ticks
pub record JoinsAt (setup : Setup) (r : RunState) (d n c i : ℕ) : Type 0 where
  pub channel : c < channel_count setup
  pub stands : i < join_count r c
  pub number :
      ((sender_of setup c ≡ d) × ((join_of r c i).sender_ticks ≡ n)) ⊎
      ((receiver_of setup c ≡ d) × ((join_of r c i).receiver_ticks ≡ n))

-- one of domain d's joins after n ticks has this stamp
abbrev pub IsJoinedAfter : Setup → RunState → ℕ → ℕ → ℕ → Type 0
IsJoinedAfter setup r d n t =
    (c : ℕ) × (i : ℕ) × JoinsAt setup r d n c i × (t ≡ (join_of r c i).stamp)

-- the stamps of a domain's ticks
abbrev pub tick_stamps : RunState → ℕ → ℕ → ℕ
tick_stamps r d n = (tick_of r d n).stamp

-- A join has its stamp from the two ticks whose numbers it has. Ticks count from 1.
pub record IsJoinStamp (setup : Setup) (r : RunState) (c : ℕ) (row : JoinRow) : Type 0 where
  pub sender : ℕ
  pub receiver : ℕ
  pub sender_number : row.sender_ticks ≡ suc sender
  pub receiver_number : row.receiver_ticks ≡ suc receiver
  pub sender_stands : sender < tick_count r (sender_of setup c)
  pub receiver_stands : receiver < tick_count r (receiver_of setup c)
  pub stamp : row.stamp ≡
      join_stamp (tick_of r (sender_of setup c) sender).stamp
      (tick_of r (receiver_of setup c) receiver).stamp

-- all ticks and joins have the stamps of the rule
pub record HasStamps (setup : Setup) (r : RunState) : Type 0 where
  pub ticks : (d n : ℕ) → n < tick_count r d →
      IsTickStamp (last_stamp (tick_stamps r d) n) (IsJoinedAfter setup r d n) (tick_of r d n).stamp
  pub joins : (c i : ℕ) → c < channel_count setup → i < join_count r c →
      IsJoinStamp setup r c (join_of r c i)

-- one log for each domain and one history for each channel
pub record Fits (setup : Setup) (r : RunState) : Type 0 where
  pub logs : length r.logs ≡ domain_count setup
  pub histories : length r.histories ≡ channel_count setup

-- a row of a history without its stamp
abbrev pub record_of : JoinRow → JoinRecord
record_of row =
    record {
      value = row.value;
      sender_ticks = row.sender_ticks;
      receiver_ticks = row.receiver_ticks;
    }

-- the tick or join is a step from this state, at its number and with what the run shows of it
abbrev pub Makes : Setup → RunState → SystemState → Event → SystemState → Type 0
Makes setup r old (TickOf d n) new =
    ((old.domain d).ticks ≡ n) × Step setup old (MakesTick d (tick_of r d n).statuses) new
Makes setup r old (JoinOf c i) new =
    (length (old.joins c) ≡ i) × Step setup old (MakesJoin c (record_of (join_of r c i))) new

-- these ticks and joins are steps, one after another
abbrev pub MakesAll : Setup → RunState → SystemState → List Event → SystemState → Type 0
MakesAll setup r old [] new = old ≡ new
MakesAll setup r old (e ∷ es) new =
    (mid : SystemState) × Makes setup r old e mid × MakesAll setup r mid es new

-- The run is legal and ends in this state: its ticks and joins in stamp order are steps from the start, with
-- the stamps of the rule, and the logs have the marks of the domains.
pub record IsLegalRun (setup : Setup) (r : RunState) (end : SystemState) : Type 0 where
  pub fits : Fits setup r
  pub stamps : HasStamps setup r
  pub order : List Event
  pub sorted : IsStampOrder r order
  pub steps : MakesAll setup r (start setup) order end
  pub marks : (d : ℕ) → d < domain_count setup → (log_of r d).mark ≡ (end.domain d).mark

-- each domain has made as many ticks as its budget, or at most as many and has ended
abbrev pub SpendsBudgets : RunState → (ℕ → ℕ) → Type 0
SpendsBudgets r budget = (d : ℕ) → d < length r.logs →
    (tick_count r d ≡ budget d) ⊎ ((tick_count r d ≤ budget d) × (is_over (log_of r d).mark ≡ true))

-- no channel has both of its ends waiting
abbrev pub IsAtRest : Setup → SystemState → Type 0
IsAtRest setup s = (c : ℕ) (v : ℤ) → c < channel_count setup → BothWait setup s c v → ⊥
