pub mod Storage
