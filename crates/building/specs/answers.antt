-- The root of the crate's definitions.
pub mod Promise
pub mod Success
pub mod laws
