-- Laws that only proofs use.
pub mod Offsets
pub mod Entries
pub mod Edge
