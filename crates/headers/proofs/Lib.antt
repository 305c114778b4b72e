pub mod Little
pub mod Lawfulness
pub mod Firsts
pub mod Sames
pub mod Passing
pub mod Longest
pub mod Extending
