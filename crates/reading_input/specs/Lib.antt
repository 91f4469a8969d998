pub mod Input
pub mod Found
