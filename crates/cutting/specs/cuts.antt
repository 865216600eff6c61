-- The root of the crate's definitions.
pub mod Numbers
pub mod Rings
pub mod Cut
pub mod Stream
pub mod Lengths
pub mod Step
pub mod Edges
pub mod Corners
pub mod Pairs
pub mod Named
pub mod Sides
pub mod Borders
pub mod Written
pub mod Turns
pub mod Whole
pub mod laws
