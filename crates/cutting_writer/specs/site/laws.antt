-- Laws that only proofs use.
pub mod Ringed
pub mod Walk
