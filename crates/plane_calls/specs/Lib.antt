pub mod Blank
pub mod Plane
pub mod laws
