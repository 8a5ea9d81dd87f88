-- Sentences of the language, and a machine that reads them.
pub mod Classes
pub mod Roles
pub mod Expressions
pub mod Tests
pub mod Statements
pub mod Programs
pub mod Sentences
pub mod Trees
pub mod SourceTrees
pub mod Machine
pub mod Walks
pub mod Limits
pub mod Counts
