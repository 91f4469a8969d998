pub mod Run
pub mod Trial
