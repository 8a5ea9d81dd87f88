-- What a log and a history hold.
use Rattle.std.specs.Prelude.{ℕ, List, []}
use Rattle.kernel_terms.specs.Marks.{Mark, Going}
use Rattle.tick_log.specs.declared.history.JoinRow.{JoinRow}
use Rattle.tick_log.specs.definitions.Runs.{Entry, DomainLog}

-- A log: its entries, its mark, for how many signals it is, and for how many ticks it has room.
pub record LogState : Type 0 where
  pub entries : List Entry
  pub mark : Mark
  pub signals : ℕ
  pub room : ℕ

-- A history: its joins, and for how many it has room.
pub record HistoryState : Type 0 where
  pub rows : List JoinRow
  pub room : ℕ

-- the log without signals and room
abbrev pub logged : LogState → DomainLog
logged log = record { entries = log.entries; mark = log.mark }

abbrev pub joined : HistoryState → List JoinRow
joined history = history.rows

-- past the last log
abbrev pub no_log : LogState
no_log = record { entries = []; mark = Going; signals = 0; room = 0 }
