pub mod Number
pub mod Areas
