-- Laws that only proofs use.
pub mod Inside
pub mod Walks
