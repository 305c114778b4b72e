pub mod Decided
pub mod Lines
pub mod Standing
