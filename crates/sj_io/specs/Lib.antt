pub mod definitions
pub mod Raised
pub mod WriteAnswers
