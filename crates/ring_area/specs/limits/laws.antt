-- Laws that only proofs use.
pub mod Divisions
pub mod Overs
pub mod Limits
