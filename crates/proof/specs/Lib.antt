pub mod Faults
pub mod Answers
pub mod Pieces
pub mod Heads
pub mod Levels
pub mod Places
pub mod Counted
pub mod Wholes
