pub mod OperandLemmas
pub mod TestOperandLemmas
pub mod LongestLemmas
