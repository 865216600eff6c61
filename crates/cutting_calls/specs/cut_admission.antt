-- The root of the crate's definitions.
pub mod CutSlices
pub mod CutAdmission
pub mod laws
