-- The number that bytes spell, what is told of a part, and the counting of cases.
pub mod Number
pub mod Parts
pub mod Tally
