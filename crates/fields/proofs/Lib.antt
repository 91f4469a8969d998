pub mod FieldAt
pub mod WantedAt
pub mod Fields
