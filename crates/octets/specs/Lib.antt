-- The root of the crate's definitions.
pub mod Bytes
pub mod Orders
pub mod Wrote
pub mod laws
pub mod hex
