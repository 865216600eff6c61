-- Laws that only proofs use.
pub mod Sites
pub mod Extension
