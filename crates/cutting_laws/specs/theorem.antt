-- The root of the crate's definitions.
pub mod MeshPieces
pub mod CutWhole
pub mod laws
