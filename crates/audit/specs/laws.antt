-- Laws that only proofs use.
pub mod Told
pub mod Pieces
pub mod BuildText
