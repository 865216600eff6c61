-- Laws that only proofs use.
pub mod Read
pub mod Points
pub mod Room
pub mod Answer
