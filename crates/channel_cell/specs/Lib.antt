pub mod Calls
pub mod Lanes
pub mod Rule
pub mod Tallies
pub mod definitions
