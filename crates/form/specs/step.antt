-- The root of the crate's definitions.
pub mod Register
pub mod Reader
pub mod Standing
pub mod Holds
pub mod laws
