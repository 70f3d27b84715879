pub mod Decimals
pub mod Hexes
pub mod Words
pub mod Writing
