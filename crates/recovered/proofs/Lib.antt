pub mod Fetched
pub mod Checks
