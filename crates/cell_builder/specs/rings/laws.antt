-- Laws that only proofs use.
pub mod Centers
pub mod Extensions
pub mod Ownership
