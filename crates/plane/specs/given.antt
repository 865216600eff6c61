pub mod Given
pub mod Finite
pub mod Neighbours
pub mod Rows
pub mod Tried
