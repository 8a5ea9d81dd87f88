pub mod Registers
pub mod Handed
