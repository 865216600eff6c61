-- Laws that only proofs use.
pub mod Carried
pub mod Keeping
