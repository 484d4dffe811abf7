-- The definition of the field, and its worked cases.
pub mod Field
pub mod Cases
