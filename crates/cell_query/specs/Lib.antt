pub mod Cells
pub mod SharedEdge
pub mod ReadBack
pub mod laws
