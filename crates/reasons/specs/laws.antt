-- Laws that only proofs use.
pub mod Search
pub mod Answer
