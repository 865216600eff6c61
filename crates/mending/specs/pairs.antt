-- The root of the crate's definitions.
pub mod Pairs
pub mod Chains
pub mod laws
pub mod PairTheorem
