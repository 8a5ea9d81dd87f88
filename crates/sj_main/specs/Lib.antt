pub mod definitions
pub mod CommandWords
pub mod OrderSteps
