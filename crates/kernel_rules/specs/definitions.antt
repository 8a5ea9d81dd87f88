pub mod Expressions
pub mod LegalTick
pub mod Mentions
pub mod Registers
pub mod Signals
pub mod TickRule
