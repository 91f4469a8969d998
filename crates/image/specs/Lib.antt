pub mod Image
pub mod Pass
