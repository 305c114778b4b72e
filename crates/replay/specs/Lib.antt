-- The definitions that the contracts cite.
pub mod Messages
pub mod Areas
pub mod Paths
pub mod Laws
