-- The definitions that the contracts cite.
pub mod Scripts
pub mod Merging
