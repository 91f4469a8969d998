pub mod Demand
pub mod Stopped
