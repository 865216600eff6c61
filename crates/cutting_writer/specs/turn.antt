-- The root of the crate's definitions.
pub mod Turned
pub mod laws
