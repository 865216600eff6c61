-- The root of the crate's definitions.
pub mod Ring
pub mod Walked
pub mod laws
