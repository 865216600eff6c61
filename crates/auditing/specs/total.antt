pub mod Total
pub mod Steps
pub mod Whole
pub mod laws
