pub mod Retraced
