pub mod Faults
pub mod FaultAt
