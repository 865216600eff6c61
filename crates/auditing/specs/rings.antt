pub mod Fan
pub mod laws
