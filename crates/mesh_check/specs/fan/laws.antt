-- Laws that only proofs use.
pub mod Owed
pub mod Loops
