pub mod definitions
pub mod KindRows
pub mod SmallTrees
