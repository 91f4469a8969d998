pub mod Correction
