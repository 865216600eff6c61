-- Laws that only proofs use.
pub mod Sizes
pub mod Answers
pub mod Writes
