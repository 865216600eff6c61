-- The root of the crate's definitions.
pub mod Crossing
pub mod Meets
pub mod laws
