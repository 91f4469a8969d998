pub mod Conclusion
pub mod On
