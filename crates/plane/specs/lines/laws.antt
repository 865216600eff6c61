-- Laws that only proofs use.
pub mod Met
