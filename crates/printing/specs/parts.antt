-- The root of the crate's definitions.
pub mod Text
pub mod Labelled
pub mod Listed
pub mod Rows
pub mod laws
