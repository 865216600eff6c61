pub mod Words
pub mod Held
pub mod laws
