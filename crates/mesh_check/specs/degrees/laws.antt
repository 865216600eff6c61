-- Laws that only proofs use.
pub mod Packing
