-- Laws that only proofs use.
pub mod Passing
pub mod Laying
pub mod Inking
