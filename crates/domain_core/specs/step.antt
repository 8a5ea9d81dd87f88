pub mod Answers
pub mod DomainKeeps
pub mod EndPlaces
pub mod JoinLists
pub mod StepParts
pub mod StatementEnds
pub mod SmallDomains
