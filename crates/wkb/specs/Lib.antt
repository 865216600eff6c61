-- The root of the crate's definitions.
pub mod Polygon
pub mod Read
pub mod Promise
pub mod ReadBack
pub mod One
pub mod laws
pub mod multipoint
pub mod multipoint_writer
