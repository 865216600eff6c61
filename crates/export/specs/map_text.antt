-- The root of the crate's definitions.
pub mod MapText
pub mod laws
