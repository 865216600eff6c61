-- The root of the crate's definitions.
pub mod Counts
pub mod Answer
pub mod laws
