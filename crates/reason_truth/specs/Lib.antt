-- The root of the crate's definitions.
pub mod Answers
pub mod Builder
pub mod Whole
pub mod Truth
pub mod laws
