pub mod Logs
pub mod Puts
pub mod Prints
pub mod definitions
