pub mod Names
pub mod Kinds
pub mod Arithmetic
pub mod SourceLimits
pub mod HeldBytes
