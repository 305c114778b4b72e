-- Lemmas that several answers rest on.
pub mod Sizes
pub mod Digits
pub mod Steps
pub mod Leaving
