-- Laws that only proofs use.
pub mod AtExit
pub mod Steps
