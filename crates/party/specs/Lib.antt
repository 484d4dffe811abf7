pub mod Answer
pub mod State
pub mod Steps
pub mod Sender
pub mod Private
pub mod Strings
pub mod Cases
