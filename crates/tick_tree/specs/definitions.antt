pub mod Exits
pub mod Laws
pub mod Leaves
pub mod Precedence
pub mod Shapes
pub mod Trees
pub mod Weight
