-- The root of the crate's definitions.
pub mod Finish
pub mod laws
