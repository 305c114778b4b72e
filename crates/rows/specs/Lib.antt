pub mod Places
pub mod Models
