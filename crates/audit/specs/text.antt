-- The root of the crate's definitions.
pub mod Share
pub mod AuditLines
pub mod Rows
pub mod laws
