pub mod Standing
pub mod Spots
