pub mod Buckets
pub mod laws
