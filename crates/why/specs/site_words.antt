-- The root of the crate's definitions.
pub mod Words
pub mod Rows
pub mod laws
