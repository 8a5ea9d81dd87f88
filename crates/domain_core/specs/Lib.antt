pub mod EndRows
pub mod Rows
pub mod definitions
pub mod equations
pub mod runs
pub mod step
