-- Laws that only proofs use.
pub mod HullRing
pub mod Staging
