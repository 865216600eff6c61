-- The root of the crate's definitions.
pub mod Answers
pub mod laws
