pub mod Searched
pub mod Fives
