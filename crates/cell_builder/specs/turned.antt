-- The root of the crate's definitions.
pub mod Turns
pub mod Marks
pub mod Loops
pub mod laws
