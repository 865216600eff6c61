-- Laws that only proofs use.
pub mod Entries
pub mod Answers
pub mod Writes
