-- The root of the crate's definitions.
pub mod MendText
pub mod Square
pub mod laws
