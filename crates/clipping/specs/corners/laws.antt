-- Laws that only proofs use.
pub mod CellEntries
pub mod CornerWrap
