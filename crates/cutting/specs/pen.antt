-- The root of the crate's definitions.
pub mod Pen
pub mod Room
pub mod laws
