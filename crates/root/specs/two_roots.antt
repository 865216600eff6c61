pub mod Slip
pub mod laws
