-- A short ring, laid into slots and cut there.
pub mod Short
pub mod laws
