-- Laws that only proofs use.
pub mod Points
pub mod Store
