pub mod ReadEnd
