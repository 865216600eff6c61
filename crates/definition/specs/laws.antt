-- Laws that only proofs use.
pub mod Gives
pub mod Puts
pub mod LastEntry
