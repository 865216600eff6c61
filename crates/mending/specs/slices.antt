-- The root of the crate's definitions.
pub mod Lent
pub mod Steps
pub mod laws
