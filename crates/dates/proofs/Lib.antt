pub mod Places
pub mod Days
pub mod Inverses
