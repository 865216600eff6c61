-- Laws that only proofs use.
pub mod Counting
pub mod Corner
pub mod Lifted
pub mod Lying
