pub mod Image
pub mod Index
pub mod Places
pub mod Search
pub mod Take
