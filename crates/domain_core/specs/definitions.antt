pub mod rounds
pub mod runs
pub mod step
