-- The root of the crate's definitions.
pub mod Calls
pub mod Promise
pub mod One
pub mod Cuttings
pub mod Exact
pub mod laws
pub mod standing
pub mod state
pub mod answers
