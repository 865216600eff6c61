-- The root of the crate's definitions.
pub mod Marks
pub mod Answer
pub mod laws
