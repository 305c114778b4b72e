-- Lemmas that several answers rest on.
mod Windows
mod Rounds
mod Blocks
mod Tails
mod Calls
