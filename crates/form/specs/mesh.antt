-- The root of the crate's definitions.
pub mod Read
pub mod One
pub mod laws
