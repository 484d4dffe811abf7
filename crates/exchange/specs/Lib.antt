pub mod Exchange
pub mod Private
