pub mod Containers
pub mod Fits
pub mod Holding
pub mod RunText
pub mod Runs
pub mod StampOrder
