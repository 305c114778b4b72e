pub mod Adds
pub mod Blanks
pub mod Outs
pub mod Writes
