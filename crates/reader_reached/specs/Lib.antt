-- The root of the crate's definitions.
pub mod Reached
pub mod laws
