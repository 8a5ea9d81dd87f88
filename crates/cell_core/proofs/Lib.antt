pub mod CellLemmas
pub mod CallLemmas
pub mod HistoryLemmas
