-- A border that turns once.
pub mod Once
pub mod Rows
