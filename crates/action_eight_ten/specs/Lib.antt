pub mod EightTen
