-- Laws that only proofs use.
pub mod Lengths
pub mod Lists
pub mod SharedEdge
