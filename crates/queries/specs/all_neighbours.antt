-- The root of the crate's definitions.
pub mod Lists
pub mod Steps
pub mod Square
pub mod laws
