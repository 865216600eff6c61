-- Laws that only proofs use.
pub mod Twins
pub mod Equal
pub mod Inserting
pub mod Passing
pub mod Blocks
