pub mod Calendar
pub mod Utc
pub mod Text
