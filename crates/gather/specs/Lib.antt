pub mod Trees
pub mod Readings
