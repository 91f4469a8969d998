pub mod Answers
pub mod Places
pub mod Sound
pub mod Naming
