pub mod OrderPlans
pub mod OrderRuns
