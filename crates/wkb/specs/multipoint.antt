-- The root of the crate's definitions.
pub mod MultiPoint
pub mod Fields
pub mod Promise
pub mod One
pub mod Exactly
pub mod laws
