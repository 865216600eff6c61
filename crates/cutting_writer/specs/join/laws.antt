-- Laws that only proofs use.
pub mod Equals
pub mod Closing
pub mod Shown
