-- The root of the crate's definitions.
pub mod Stands
pub mod laws
