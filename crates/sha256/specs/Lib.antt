-- The definition of SHA-256, the reason of its constants, and worked examples.
pub mod Sha256
pub mod Rest
pub mod Constants
pub mod Cases
