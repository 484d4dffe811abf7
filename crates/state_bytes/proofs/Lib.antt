pub mod Reading
pub mod Inverse
