-- Laws that only proofs use.
pub mod ClippedCursor
pub mod ClippedStep
pub mod ClippedLoop
pub mod Clippable
