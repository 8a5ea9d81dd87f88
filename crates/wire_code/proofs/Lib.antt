pub mod EquationLemmas
pub mod NumberingLemmas
pub mod SolutionLemmas
