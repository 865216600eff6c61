-- Laws that only proofs use.
pub mod Decimal
pub mod Labelled
pub mod Listed
