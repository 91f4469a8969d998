pub mod Run
pub mod Whole
pub mod Notes
pub mod Stops
