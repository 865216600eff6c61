pub mod Asks
pub mod laws
