pub mod Larger
pub mod Tags
pub mod Steps
pub mod Wholes
