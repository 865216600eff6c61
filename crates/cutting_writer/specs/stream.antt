-- The root of the crate's definitions.
pub mod Stages
pub mod laws
