-- The root of the crate's definitions.
pub mod Ready
pub mod laws
