pub mod WalkLemmas
pub mod PartLemmas
pub mod LeafLemmas
pub mod BlockLemmas
pub mod InterfaceLemmas
pub mod ProgramLemmas
