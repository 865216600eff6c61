-- The root of the crate's definitions.
pub mod Steps
pub mod laws
