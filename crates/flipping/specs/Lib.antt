-- The root of the crate's definitions.
pub mod Flip
pub mod Entries
pub mod laws
pub mod FlipTheorem
pub mod rule
pub mod stores
pub mod call
