pub mod Received
