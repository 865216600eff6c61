pub mod Windows
pub mod laws
