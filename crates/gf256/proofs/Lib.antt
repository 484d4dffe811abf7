-- The laws of the field, and what they rest on.
pub mod Xor
pub mod Test
pub mod Linear
pub mod Tables
pub mod Laws
pub mod Bits
pub mod Exponents
