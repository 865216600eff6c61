-- Laws that only proofs use.
pub mod BuildOutcome
pub mod FirstCells
pub mod LateCells
