pub mod Answers
pub mod Sizes
pub mod Calls
pub mod Words
