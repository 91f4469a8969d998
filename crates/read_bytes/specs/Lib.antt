pub mod Bytes
pub mod Pattern
