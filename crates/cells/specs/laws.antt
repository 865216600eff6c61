-- Laws that only proofs use.
pub mod BuildText
pub mod CellsInIndexes
