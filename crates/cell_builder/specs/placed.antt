-- The root of the crate's definitions.
pub mod Placed
pub mod laws
