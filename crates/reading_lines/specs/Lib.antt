pub mod Lines
pub mod Entries
