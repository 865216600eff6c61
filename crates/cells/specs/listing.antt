-- The root of the crate's definitions.
pub mod Listing
pub mod Square
pub mod laws
