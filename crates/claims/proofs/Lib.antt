pub mod Capped
pub mod Levels
pub mod Numbers
