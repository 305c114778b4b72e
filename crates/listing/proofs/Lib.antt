-- Lemmas that several answers rest on.
pub mod Listed
