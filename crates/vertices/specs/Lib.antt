pub mod Add
pub mod Store
pub mod buckets
pub mod laws
