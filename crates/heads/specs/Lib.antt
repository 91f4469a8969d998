pub mod Reached
pub mod Heads
