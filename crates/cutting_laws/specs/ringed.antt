-- The root of the crate's definitions.
pub mod Walked
pub mod Filled
