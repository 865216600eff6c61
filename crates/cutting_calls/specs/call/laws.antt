-- Laws that only proofs use.
pub mod Answer
pub mod Order
pub mod Steps
