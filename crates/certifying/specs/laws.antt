-- Laws that only proofs use.
pub mod Ranges
