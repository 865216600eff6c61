-- The root of the crate's definitions.
pub mod Plane
pub mod Raised
pub mod laws
pub mod scan
pub mod border
pub mod check
pub mod nearest
pub mod floats
