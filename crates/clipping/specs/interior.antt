pub mod Interior
pub mod laws
