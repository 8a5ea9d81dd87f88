pub mod Formulas
pub mod Numbering
pub mod SmallEquations
