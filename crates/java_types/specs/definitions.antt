pub mod Checks
pub mod Spellings
pub mod Operands
pub mod Conversions
pub mod TypedTrees
pub mod Typings
pub mod FittingKinds
pub mod Combinations
