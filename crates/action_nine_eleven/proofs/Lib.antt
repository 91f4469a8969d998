pub mod Walking
pub mod Overflows
