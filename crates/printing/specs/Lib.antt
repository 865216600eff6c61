-- The root of the crate's definitions.
pub mod OfForm
pub mod Printed
pub mod Rooms
pub mod One
pub mod Enough
pub mod laws
pub mod parts
