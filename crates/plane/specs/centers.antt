-- The root of the crate's definitions.
pub mod Circumcenter
pub mod Centroid
pub mod Finite
pub mod laws
