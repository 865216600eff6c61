-- Laws that only proofs use.
pub mod Marks
pub mod Padded
