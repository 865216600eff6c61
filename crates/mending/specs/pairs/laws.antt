-- Laws that only proofs use.
pub mod Mates
pub mod Chaining
pub mod Marking
pub mod Pairing
