-- The definitions that the contracts cite.
pub mod Writing
pub mod Writers
pub mod Payloads
