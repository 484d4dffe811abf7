pub mod Decimals
pub mod Hexes
pub mod Lines
