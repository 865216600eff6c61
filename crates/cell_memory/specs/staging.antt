-- The root of the crate's definitions.
pub mod Staging
pub mod laws
