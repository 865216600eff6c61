pub mod Near
pub mod Turn
pub mod Schoolbook
pub mod Widths
pub mod laws
