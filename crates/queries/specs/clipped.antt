-- The root of the crate's definitions.
pub mod Clipped
pub mod Clippable
pub mod ClippedCursor
pub mod Square
pub mod laws
