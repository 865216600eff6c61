-- The root of the crate's definitions.
pub mod Option
pub mod Record
pub mod laws
