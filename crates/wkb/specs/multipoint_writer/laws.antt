-- Laws that only proofs use.
pub mod Answers
pub mod Points
pub mod SameSites
