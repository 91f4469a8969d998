pub mod Pack
pub mod Places
