-- The root of the crate's definitions.
pub mod Fault
pub mod Cell
pub mod Build
pub mod Reused
pub mod Rows
pub mod RowsBuilt
pub mod RowsRefused
pub mod Measures
pub mod Sides
pub mod Short
pub mod laws
