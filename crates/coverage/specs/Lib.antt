pub mod Reading
pub mod Inverse
pub mod Options
pub mod Spans
pub mod Lines
