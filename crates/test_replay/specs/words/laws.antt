-- Laws that only proofs use.
pub mod Reading
pub mod Held
