-- Laws that only proofs use.
pub mod Marks
pub mod Unmarked
pub mod Loops
