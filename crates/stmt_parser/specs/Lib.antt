pub mod definitions
pub mod Reading
