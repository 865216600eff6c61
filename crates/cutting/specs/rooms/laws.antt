-- Laws that only proofs use.
pub mod Fresh
pub mod Rings
pub mod Pieces
