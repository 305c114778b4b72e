-- The definitions that the contracts cite.
pub mod Words
pub mod Sha256
pub mod Working
