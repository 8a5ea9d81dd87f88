pub mod LegalRuns
pub mod OwnRuns
pub mod Scheduled
pub mod StampBound
pub mod Stamps
pub mod Systems
