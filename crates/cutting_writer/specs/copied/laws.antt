-- Laws that only proofs use.
pub mod Closing
pub mod Lapping
pub mod Laying
