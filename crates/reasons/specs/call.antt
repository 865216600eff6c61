-- The root of the crate's definitions.
pub mod Call
pub mod One
pub mod laws
