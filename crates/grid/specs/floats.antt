-- The root of the crate's definitions.
pub mod Sites
pub mod One
pub mod Equal
pub mod laws
