-- The root of the crate's definitions.
pub mod Tried
pub mod Admits
pub mod laws
