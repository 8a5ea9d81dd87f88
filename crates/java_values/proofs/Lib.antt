pub mod WrappingLemmas
pub mod FittingLemmas
pub mod InRangeLemmas
