pub mod Ray
pub mod Rules
pub mod OnBox
pub mod Finite
pub mod Rows
pub mod laws
