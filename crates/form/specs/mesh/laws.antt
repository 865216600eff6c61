-- Laws that only proofs use.
pub mod Read
