pub mod NextFits
pub mod CswBytes
