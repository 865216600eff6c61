-- The root of the crate's definitions.
pub mod Limits
pub mod Form
pub mod Length
pub mod Place
pub mod Promise
pub mod Square
pub mod laws
pub mod step
pub mod boxes
pub mod mesh
