pub mod Ccw
pub mod Store
pub mod Walk
pub mod Fetch
pub mod Csw
