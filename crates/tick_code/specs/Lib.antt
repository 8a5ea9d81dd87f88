pub mod BuiltKinds
pub mod Counters
pub mod Numbers
pub mod Operands
pub mod SmallCodes
pub mod WellKinded
