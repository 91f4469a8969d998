pub mod RunAnswer
