-- The root of the crate's definitions.
pub mod Outputs
pub mod laws
