-- The root of the crate's definitions.
pub mod Mending
pub mod Steps
pub mod laws
pub mod One
pub mod MendTheorem
pub mod changes
pub mod pairs
pub mod border
pub mod slices
