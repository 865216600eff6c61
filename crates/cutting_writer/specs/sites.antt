-- The root of the crate's definitions.
pub mod Loop
pub mod Pieces
pub mod laws
