-- The root of the crate's definitions.
pub mod SlicesWhole
pub mod laws
