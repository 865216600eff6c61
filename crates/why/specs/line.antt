-- The root of the crate's definitions.
pub mod ReasonLine
pub mod Rows
pub mod laws
