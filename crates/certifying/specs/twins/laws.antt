-- Laws that only proofs use.
pub mod Inserting
pub mod Passing
