pub mod Targets
pub mod Headers
pub mod Steps
pub mod Following
pub mod Runs
