pub mod Restored
pub mod Answers
