-- The root of the crate's definitions.
pub mod SlicesInvariant
pub mod Tries
pub mod laws
