pub mod Compiling
pub mod Domains
pub mod EndCalls
pub mod EndRegisters
pub mod PureSignals
pub mod RoundsOf
pub mod Steps
