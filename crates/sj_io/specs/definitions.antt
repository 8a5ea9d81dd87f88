pub mod Causes
pub mod Counts
pub mod Files
pub mod Sinks
pub mod Gathers
pub mod Memory
pub mod Host
