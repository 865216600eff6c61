pub mod Plane
pub mod Flat
pub mod Rules
pub mod Sites
pub mod Finite
pub mod laws
