-- Laws that only proofs use.
pub mod Steps
pub mod Standing
