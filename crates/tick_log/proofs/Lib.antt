pub mod StatusLemmas
pub mod LogEntryLemmas
pub mod JoinedTexts
pub mod PrinterTexts
pub mod InterfaceSignals
pub mod LineTexts
pub mod LongLogs
