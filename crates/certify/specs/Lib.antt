-- The root of the crate's definitions.
pub mod Rooms
pub mod Printed
pub mod One
pub mod Enough
pub mod Certified
pub mod laws
pub mod text
