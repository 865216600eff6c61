pub mod shared
pub mod neighbours
pub mod paths
