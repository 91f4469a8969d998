pub mod Items
pub mod Each
