-- The root of the crate's definitions.
pub mod Area
pub mod Kept
pub mod Exact
pub mod Alike
pub mod Inside
pub mod Rows
pub mod laws
