pub mod Places
pub mod Buckets
pub mod laws
