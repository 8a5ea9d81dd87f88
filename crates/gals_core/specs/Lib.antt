pub mod BetweenTurns
pub mod Channels
pub mod Opening
pub mod Plans
pub mod RunsOverCells
pub mod definitions
