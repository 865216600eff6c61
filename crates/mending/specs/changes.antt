-- The root of the crate's definitions.
pub mod Changes
pub mod laws
