-- The root of the crate's definitions.
pub mod Neighbours
pub mod Cursor
pub mod Fills
pub mod laws
