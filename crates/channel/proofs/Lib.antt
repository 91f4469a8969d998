pub mod Readable
pub mod Stretch
pub mod Answers
pub mod Walks
pub mod InChain
pub mod Shown
