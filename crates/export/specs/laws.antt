-- Laws that only proofs use.
pub mod BuildText
pub mod CellsInIndexes
pub mod Drawing
pub mod TextRoom
