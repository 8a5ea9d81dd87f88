pub mod MomentLemmas
pub mod RegisterLemmas
