-- Laws that only proofs use.
pub mod BuildText
pub mod BuiltSlices
pub mod CellsInIndexes
pub mod ReadForm
pub mod TextRoom
pub mod WholeBuild
