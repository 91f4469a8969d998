pub mod Fields
pub mod TaggedAt
