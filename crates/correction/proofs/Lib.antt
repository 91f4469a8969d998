pub mod Final
pub mod Tests
pub mod Retracing
