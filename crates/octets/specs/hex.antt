-- The root of the crate's definitions.
pub mod Hex
pub mod ReadBack
pub mod laws
