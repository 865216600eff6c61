-- Laws that only proofs use.
pub mod Outcomes
pub mod Working
