pub mod Table
pub mod Report
pub mod Correct
pub mod Recovery
