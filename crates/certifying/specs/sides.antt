pub mod Sides
pub mod Chains
pub mod laws
