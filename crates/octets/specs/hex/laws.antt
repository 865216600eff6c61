-- Laws that only proofs use.
pub mod Hex
pub mod Unhex
