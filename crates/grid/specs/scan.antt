-- The root of the crate's definitions.
pub mod Judged
pub mod laws
