-- Laws that only proofs use.
pub mod Chains
pub mod Inserting
pub mod Keys
