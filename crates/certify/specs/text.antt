-- The root of the crate's definitions.
pub mod CertifyLine
pub mod Rows
pub mod laws
