-- Laws that only proofs use.
pub mod Loops
pub mod Found
