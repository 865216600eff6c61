-- Laws that only proofs use.
pub mod Cells
pub mod Offsets
pub mod SharedEdge
