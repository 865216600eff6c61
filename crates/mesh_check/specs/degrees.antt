-- Rule 10 by walks of known length.
pub mod Packed
pub mod laws
