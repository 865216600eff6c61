-- The root of the crate's definitions.
pub mod ChangeLines
pub mod laws
