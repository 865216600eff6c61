-- Laws that only proofs use.
pub mod Filled
