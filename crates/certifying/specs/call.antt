pub mod Verdict
pub mod Sound
pub mod Rows
pub mod Steps
pub mod Promise
pub mod One
pub mod laws
