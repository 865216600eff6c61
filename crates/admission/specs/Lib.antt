pub mod Admits
pub mod Slices
pub mod Admission
pub mod laws
