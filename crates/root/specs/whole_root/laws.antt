-- Laws that only proofs use.
pub mod Rounds
pub mod Turns
