-- Laws that only proofs use.
pub mod Tables
pub mod Outcomes
