pub mod CellEntries
pub mod laws
