-- Laws that only proofs use.
pub mod Writes
pub mod Answers
