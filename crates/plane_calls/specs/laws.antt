-- Laws that only proofs use.
pub mod Plane
