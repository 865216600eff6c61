-- The root of the crate's definitions.
pub mod Words
pub mod Entered
pub mod Kept
pub mod laws
