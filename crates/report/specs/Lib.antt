pub mod Lines
pub mod Options
pub mod Requests
pub mod Commands
