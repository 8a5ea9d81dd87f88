-- What the lexer promises is said in these terms.
pub mod ReservedWords
pub mod Signs
pub mod Numbers
pub mod Characters
pub mod Heads
pub mod Readings
pub mod Refusals
