pub mod Commands
pub mod Join
pub mod Reach
