pub mod Listed
pub mod Ons
