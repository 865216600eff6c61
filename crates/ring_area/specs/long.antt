pub mod Amount
pub mod Steps
pub mod laws
