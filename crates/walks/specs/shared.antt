-- The root of the crate's definitions.
pub mod Cells
pub mod Edge
pub mod laws
