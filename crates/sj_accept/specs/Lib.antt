pub mod definitions
pub mod BuiltTerms
pub mod StaticRules
pub mod Lowered
pub mod SmallPrograms
