-- The root of the crate's definitions.
pub mod Border
pub mod laws
