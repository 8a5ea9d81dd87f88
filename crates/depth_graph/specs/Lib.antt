pub mod SmallCopies
pub mod definitions
pub mod ResumesBuilt
