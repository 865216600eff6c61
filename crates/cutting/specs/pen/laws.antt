-- Laws that only proofs use.
pub mod Numbered
