pub mod Answers
pub mod Sound
pub mod Small
pub mod Tools
pub mod Asked
pub mod Kept
