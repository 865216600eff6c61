-- The root of the crate's definitions.
pub mod Whole
pub mod ReadBack
pub mod Value
pub mod laws
