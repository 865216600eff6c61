-- Laws that only proofs use.
pub mod Slips
