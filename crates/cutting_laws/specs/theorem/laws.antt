-- Laws that only proofs use.
pub mod InTurn
pub mod NumberNone
pub mod Placed
