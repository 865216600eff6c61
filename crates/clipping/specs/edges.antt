pub mod EdgeClip
pub mod laws
