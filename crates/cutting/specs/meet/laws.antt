-- Laws that only proofs use.
pub mod Compare
pub mod Bounded
pub mod Calls
