pub mod Cut
pub mod Alike
pub mod First
pub mod Rest
pub mod Whole
pub mod Example
