mod BooleanLemmas
mod TickTrials
pub mod OneTickLemmas
pub mod SeenTicks
pub mod OneLogLemmas
pub mod DomainRows
pub mod OneLogRows
pub mod InputReadingLemmas
pub mod CompletionCodes
pub mod TickLocalityLemmas
mod ModulusLemmas
pub mod CombinationLemmas
pub mod EmissionLemmas
pub mod RowLemmas
pub mod RowRefusals
pub mod StartingTicks
pub mod ResumingTicks
pub mod ResidualNames
pub mod LocalEmissionLemmas
