pub mod Interleavings
pub mod Rounds
