pub mod Hexes
pub mod Inverses
pub mod Numerals
pub mod Pairs
