-- Laws that only proofs use.
pub mod BoxLine
