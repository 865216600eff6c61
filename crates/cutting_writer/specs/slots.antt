-- The slots of a short ring.
pub mod Slots
pub mod laws
