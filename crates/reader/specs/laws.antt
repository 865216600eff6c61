-- Laws that only proofs use.
pub mod Calls
pub mod Lengths
pub mod Refusals
