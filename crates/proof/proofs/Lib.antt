pub mod Weights
pub mod Payloads
