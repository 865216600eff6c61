-- Laws that only proofs use.
pub mod Lists
pub mod Lent
pub mod Writes
