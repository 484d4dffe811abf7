pub mod Ring
pub mod Sum
pub mod Value
pub mod Unique
pub mod Cond
pub mod Interpolation
pub mod Hom
