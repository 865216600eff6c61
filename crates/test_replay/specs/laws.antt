-- Laws that only proofs use.
pub mod Replayed
pub mod Judged
pub mod Tallied
