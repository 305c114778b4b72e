-- Lemmas that several answers rest on.
pub mod Numbers
pub mod Rooms
pub mod Ends
pub mod Files
