-- Laws that only proofs use.
pub mod ChangeLines
