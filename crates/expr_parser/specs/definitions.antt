-- What the parser promises is said in these terms.
pub mod Longest
