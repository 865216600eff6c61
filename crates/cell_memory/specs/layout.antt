-- The root of the crate's definitions.
pub mod Cleared
pub mod Regions
pub mod Rooms
pub mod laws
