pub mod Words
pub mod Each
