-- The root of the crate's definitions.
pub mod Flips
pub mod Steps
pub mod laws
pub mod One
pub mod FlipsTheorem
