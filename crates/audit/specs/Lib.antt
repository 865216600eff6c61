-- The root of the crate's definitions.
pub mod Printed
pub mod Shown
pub mod laws
pub mod turns
pub mod text
