pub mod TreeWeights
pub mod StartingEnds
pub mod ResumingEnds
pub mod StatementLayers
pub mod PartLists
pub mod WayLemmas
pub mod PartWalks
pub mod ExitFitLemmas
pub mod PlaceLemmas
pub mod LeafNumbers
pub mod LeafPlaces
pub mod SignalNumbers
pub mod RowLemmas
pub mod TermRows
mod LeafRanks
