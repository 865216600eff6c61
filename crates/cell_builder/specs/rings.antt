-- The root of the crate's definitions.
pub mod Centers
pub mod Extensions
pub mod Ownership
pub mod laws
