pub mod Texts
pub mod Entries
