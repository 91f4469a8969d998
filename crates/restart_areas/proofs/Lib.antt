pub mod Placing
pub mod Areas
