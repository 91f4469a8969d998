pub mod Model
pub mod Order
pub mod Within
