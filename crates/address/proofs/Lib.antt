pub mod ExtentAnswer
pub mod Models
pub mod Order
