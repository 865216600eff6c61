-- A ring that is walked once and copied.
pub mod Copied
pub mod laws
