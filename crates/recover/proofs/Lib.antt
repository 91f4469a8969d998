pub mod Acts
pub mod Calls
pub mod Finished
