pub mod Tracks
pub mod Restarts
