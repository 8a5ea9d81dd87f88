pub mod definitions
pub mod CellEnds
