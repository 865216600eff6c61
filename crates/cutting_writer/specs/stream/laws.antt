-- Laws that only proofs use.
pub mod Stages
