-- What crates above cite (Laws), and the laws that the functions' proofs use.
pub mod Laws
pub mod Steps
pub mod Tail
pub mod Blocks
pub mod Answers
