-- The definitions that the contracts cite.
pub mod Refusals
pub mod Models
pub mod Phases
