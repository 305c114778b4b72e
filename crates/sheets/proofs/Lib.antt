-- Lemmas that several answers rest on.
pub mod Decimals
pub mod Digits
pub mod Lines
