-- When a run is one of a system.
use Rattle.std.specs.Prelude.{◌≡◌, ℕ, ◌<◌, ◌≤◌, ◌^◌, ℤ, pos, true, List, [], ◌∷◌, length, All, Option, Some, None}
use Rattle.java_values.specs.declared.kind.Kind.{Kind}
use Rattle.java_values.specs.Kinds.{IsInRange}
use Rattle.kernel_terms.specs.declared.system.System.{System}
use Rattle.kernel_terms.specs.declared.tables.SignalInfo.{SignalInfo}
use Rattle.kernel_terms.specs.declared.tables.Tables.{Tables}
use Rattle.kernel_terms.specs.Systems.{tables_of, domains_of}
use Rattle.kernel_terms.specs.Marks.{is_over}
use Rattle.kernel_terms.specs.TableEntries.{channel_at}
use Rattle.tick_log.specs.declared.history.JoinRow.{JoinRow}
use Rattle.tick_log.specs.definitions.Runs.{Entry, DomainLog, RunState, log_of, history_of}
use Rattle.tick_log.specs.definitions.RunText.{interface_signals}

-- the most ticks of a domain and joins of a channel
abbrev pub most_ticks : ℕ
most_ticks = 100000

pub record IsStamp (stamp : ℕ) : Type 0 where
  pub first : 1 ≤ stamp
  pub last : stamp < 2 ^ 62

-- a value of the signal's kind, or 0 of a pure signal
abbrev pub IsSignalValue : Option Kind → ℤ → Type 0
IsSignalValue None v = v ≡ pos 0
IsSignalValue (Some k) v = IsInRange k v

abbrev pub IsStatus : Option Kind → Option ℤ → Type 0
IsStatus kind None = Unit {0}
IsStatus kind (Some v) = IsSignalValue kind v

-- one status per signal, and each is one of its signal
abbrev pub AreStatuses : List SignalInfo → List (Option ℤ) → Type 0
AreStatuses [] [] = Unit {0}
AreStatuses (info ∷ infos) (status ∷ statuses) =
    IsStatus info.kind status × AreStatuses infos statuses
AreStatuses _ _ = ⊥

pub record IsEntry (infos : List SignalInfo) (e : Entry) : Type 0 where
  pub stamp : IsStamp e.stamp
  pub statuses : AreStatuses infos e.statuses

-- a log of the domain of this number; a domain that is over has made a tick
pub record IsLog (t : Tables) (domain : ℕ) (log : DomainLog) : Type 0 where
  pub ticks : length log.entries ≤ most_ticks
  pub entries : All (IsEntry (interface_signals t domain)) log.entries
  pub mark : is_over log.mark ≡ true → 1 ≤ length log.entries

pub record IsRow (kind : Kind) (row : JoinRow) : Type 0 where
  pub value : IsInRange kind row.value
  pub sender : row.sender_ticks ≤ most_ticks
  pub receiver : row.receiver_ticks ≤ most_ticks
  pub stamp : IsStamp row.stamp

-- a history of a channel of this kind
pub record IsHistory (kind : Kind) (rows : List JoinRow) : Type 0 where
  pub joins : length rows ≤ most_ticks
  pub each : All (IsRow kind) rows

-- the run has one log per domain and one history per channel
pub record FitsSystem (system : System) (run : RunState) : Type 0 where
  pub domains : length run.logs ≡ length (domains_of system)
  pub channels : length run.histories ≡ length (tables_of system).channels
  pub logs : (d : ℕ) → d < length run.logs → IsLog (tables_of system) d (log_of run d)
  pub histories : (c : ℕ) → c < length run.histories →
      IsHistory (channel_at (tables_of system) c).kind (history_of run c)
