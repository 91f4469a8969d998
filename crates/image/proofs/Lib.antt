pub mod Marks
pub mod Pass
pub mod Sound
pub mod Pigeons
pub mod Beyond
