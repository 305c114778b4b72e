pub mod Words
pub mod Lines
pub mod Refusals
pub mod Commands
