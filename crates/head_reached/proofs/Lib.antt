pub mod Head
pub mod Example
