pub mod Bytes
pub mod Coding
pub mod Rebuild
pub mod Arrays
pub mod Cases
