pub mod Pieces
pub mod CountLemmas
pub mod MemoryLemmas
pub mod GatheringLemmas
