pub mod Places
pub mod Users
pub mod Behind
pub mod Front
