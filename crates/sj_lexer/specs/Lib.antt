pub mod definitions
pub mod Lexing
