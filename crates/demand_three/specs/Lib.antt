pub mod WholeReading
pub mod Demand
pub mod Reported
pub mod Stopped
pub mod Exception
