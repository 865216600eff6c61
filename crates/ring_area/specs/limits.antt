pub mod Long
pub mod laws
