pub mod Tree
pub mod Strings
pub mod Height
pub mod Hashes
pub mod Answer
pub mod Shares
pub mod Steps
pub mod Cases
