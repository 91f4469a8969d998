pub mod Areas
pub mod Model
pub mod Run
pub mod Recover
pub mod Reading
