-- The root of the crate's proofs.
pub mod laws
