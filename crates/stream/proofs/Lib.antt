pub mod Spelled
pub mod Parts
