-- The root of the crate's definitions.
pub mod Asked
pub mod laws
