pub mod Outside
pub mod laws
