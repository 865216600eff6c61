-- The root of the crate's definitions.
pub mod NearestLine
pub mod laws
