pub mod Limit
pub mod laws
