pub mod Meaning
pub mod HeaderRules
pub mod Lasting
pub mod Listing
pub mod CalendarRules
pub mod Choosing
