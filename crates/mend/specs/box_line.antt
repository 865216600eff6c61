-- The root of the crate's definitions.
pub mod BoxLine
pub mod laws
