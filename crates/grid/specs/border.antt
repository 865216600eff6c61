-- The root of the crate's definitions.
pub mod ShortForm
pub mod laws
