pub mod Scripting
pub mod Merges
