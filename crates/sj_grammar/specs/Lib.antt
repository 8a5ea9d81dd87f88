pub mod definitions
pub mod Rows
pub mod TreeRows
