-- Laws that only proofs use.
pub mod Round
pub mod Changes
