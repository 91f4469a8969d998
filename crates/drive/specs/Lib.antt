pub mod Drive
pub mod Command
pub mod Step
pub mod Run
pub mod Storage
pub mod Arguments
