-- Laws that only proofs use.
pub mod Filling
