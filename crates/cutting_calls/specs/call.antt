-- The root of the crate's definitions.
pub mod Promise
pub mod Steps
pub mod laws
