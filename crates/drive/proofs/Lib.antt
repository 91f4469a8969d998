pub mod Example
pub mod Steps
pub mod Multitrack
pub mod Origin
pub mod Local
pub mod Storage
pub mod Arguments
