-- Laws that only proofs use.
pub mod Centroid
pub mod Calls
