pub mod Nearer
pub mod Steps
pub mod laws
