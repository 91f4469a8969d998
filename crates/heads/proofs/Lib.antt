pub mod Next
pub mod Reach
