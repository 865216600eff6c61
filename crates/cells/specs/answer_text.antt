-- The root of the crate's definitions.
pub mod Shown
pub mod laws
