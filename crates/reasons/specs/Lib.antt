-- The root of the crate's definitions.
pub mod Reason
pub mod Answer
pub mod Rules
pub mod laws
pub mod explaining
pub mod call
