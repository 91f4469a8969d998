pub mod ReadingAnswer
