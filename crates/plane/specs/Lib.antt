pub mod points
pub mod centers
pub mod boxes
pub mod sides
pub mod given
pub mod lines
pub mod rays
