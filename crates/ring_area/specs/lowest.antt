pub mod Lowest
pub mod laws
