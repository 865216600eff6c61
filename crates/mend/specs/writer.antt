-- The root of the crate's definitions.
pub mod Written
pub mod FormOf
pub mod laws
