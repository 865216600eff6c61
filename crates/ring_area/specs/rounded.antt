pub mod Rounded
pub mod laws
