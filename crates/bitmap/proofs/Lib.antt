pub mod Maps
pub mod Collected
