-- What the program promises is said in these terms.
pub mod ProgramSetups
pub mod Commands
pub mod RunWeight
pub mod Verdicts
pub mod Answers
