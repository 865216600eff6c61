-- Laws that only proofs use.
pub mod Halves
pub mod Threes
