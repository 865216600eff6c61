-- The leftmost table.
pub mod Filled
pub mod laws
