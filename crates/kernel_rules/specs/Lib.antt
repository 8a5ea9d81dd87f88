pub mod Rows
pub mod ShownTicks
pub mod Worked
pub mod definitions
