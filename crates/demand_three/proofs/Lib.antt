pub mod Genuine
pub mod Hits
pub mod Mending
pub mod DemandThree
pub mod Reported
pub mod Stopped
pub mod Exception
