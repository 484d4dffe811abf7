pub mod Session
pub mod Private
