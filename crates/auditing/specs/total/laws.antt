-- Laws that only proofs use.
pub mod Sums
