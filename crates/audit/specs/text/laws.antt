-- Laws that only proofs use.
pub mod Short
pub mod Points
