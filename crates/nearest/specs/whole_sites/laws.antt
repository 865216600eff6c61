-- Laws that only proofs use.
pub mod Kept
pub mod Filled
